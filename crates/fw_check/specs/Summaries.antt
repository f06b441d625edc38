-- The last line of a check (docs/check.md).
use Rattle.std.specs.Prelude.{ℕ, ◌==◌, List, [], ◌++◌, codes, if◌then◌else◌}
use Rattle.std.specs.Fmt.{decimal}
use Rattle.fw_check.specs.ReportLines.{Report}

abbrev pub plural : ℕ → List ℕ
plural n = if n == 1 then [] else codes "s"

-- so many of them, and what follows
abbrev pub several : ℕ → (one after : List ℕ) → List ℕ
several n one after = decimal n ++ one ++ plural n ++ after

abbrev pub last_line : (scripts errors warnings : ℕ) → List ℕ
last_line scripts errors warnings =
    several scripts (codes " script") (codes " looked at, ") ++ several errors (codes " error") (codes ", ")
    ++ several warnings (codes " warning") (codes "\n")

abbrev pub summary : Report → List ℕ
summary report = last_line report.scripts report.errors report.warnings
