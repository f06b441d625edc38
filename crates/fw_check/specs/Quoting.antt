-- Quotes, backslashes, names and line ends of a script that a board reads in another way (docs/check.md, "Quoting").
use Rattle.std.specs.Prelude.{ℕ, suc, ◌==◌, ◌-◌, ◌&&◌, ◌||◌, Bool, true, false, List, [], ◌∷◌, ◌++◌, codes, Option, Some, None, if◌then◌else◌}
use Rattle.finding_kinds.specs.declared.kinds.FindingKind.{FindingKind}
use Rattle.finding_kinds.specs.declared.kinds.FindingKind.TheVariants as kind
use Rattle.fw_check.specs.ReportLines.{Finding, found_at}
use Rattle.fw_check.specs.declared.quoting.Inside.{Inside}
use Rattle.fw_check.specs.declared.quoting.Inside.TheVariants.{Gap, GapEscape, Comment, Plain, Escape, Dollar, Single, Double, DoubleEscape, DoubleDollar}
use Rattle.fw_check.specs.declared.quoting.Odd.{Odd}
use Rattle.fw_check.specs.declared.quoting.Odd.TheVariants as odd

abbrev pub is_space : ℕ → Bool
is_space b = b == 32 || b == 9

-- ---- what the byte behind this one is in

abbrev pub after_plain : ℕ → Inside
after_plain b =
    if b == 92 then Escape
    else if b == 39 then Single
    else if b == 34 then Double
    else if b == 36 then Dollar
    else if is_space b || b == 10 || b == 59 then Gap false
    else if b == 38 || b == 124 then Gap true
    else Plain

abbrev pub after_gap : (loose : Bool) → ℕ → Inside
after_gap loose b =
    if b == 92 then GapEscape loose
    else if b == 35 then Comment loose
    else if is_space b then Gap loose
    else after_plain b

abbrev pub after_double : ℕ → Inside
after_double b = if b == 34 then Plain else if b == 92 then DoubleEscape else if b == 36 then DoubleDollar else Double

abbrev pub after : Inside → ℕ → Inside
after (Gap loose) b = after_gap loose b
after (GapEscape loose) b = if b == 10 then Gap loose else Plain
after (Comment loose) b = if b == 10 then Gap false else Comment loose
after Plain b = after_plain b
after Escape b = Plain
after Dollar b = after_plain b
after Single b = if b == 39 then Plain else Single
after Double b = after_double b
after DoubleEscape b = Double
after DoubleDollar b = after_double b

-- ---- what a board reads in another way at this byte, or at the one before it

abbrev pub odd_if : Bool → Odd → Option Odd
odd_if here o = if here then Some o else None

abbrev pub odd_after_backslash : ℕ → Option Odd
odd_after_backslash b =
    if b == 10 then Some odd.Joined else if b == 39 then Some odd.Apostrophe else odd_if (b == 34 || b == 36 || b == 92) odd.Kept

abbrev pub odd_after_dollar : ℕ → Option Odd
odd_after_dollar b = if b == 95 then Some odd.Underscored else odd_if (b == 39) odd.Apostrophe

abbrev pub odd_at : Inside → ℕ → Option Odd
odd_at (Gap loose) b = odd_if (loose && b == 10) odd.Loose
odd_at (GapEscape loose) b = odd_if (b == 10) odd.Joined
odd_at (Comment loose) b = odd_if (loose && b == 10) odd.Loose
odd_at Plain b = None
odd_at Escape b = odd_if (b == 10) odd.Joined
odd_at Dollar b = odd_if (b == 95) odd.Underscored
odd_at Single b = odd_if (b == 92) odd.Dropped
odd_at Double b = odd_if (b == 39) odd.Apostrophe
odd_at DoubleEscape b = odd_after_backslash b
odd_at DoubleDollar b = odd_after_dollar b

-- ---- how it is told

abbrev pub odd_kind : Odd → FindingKind
odd_kind odd.Joined = kind.JoinedLines
odd_kind odd.Loose = kind.LooseOperators
odd_kind odd.Apostrophe = kind.Apostrophes
odd_kind odd.Dropped = kind.BackslashesInQuotes
odd_kind odd.Kept = kind.BackslashesInQuotes
odd_kind odd.Underscored = kind.UnderscoredNames

abbrev pub odd_sentence : Odd → List ℕ
odd_sentence odd.Joined = codes "a board takes this newline into a word, and does not join the lines"
odd_sentence odd.Loose = codes "a board runs the next line whatever the status here is"
odd_sentence odd.Apostrophe = codes "a board takes this `'` for the beginning or the end of a quote"
odd_sentence odd.Dropped = codes "a board drops this backslash"
odd_sentence odd.Kept = codes "a board keeps this backslash"
odd_sentence odd.Underscored = codes "a board substitutes a name that begins with `_` in braces only"

-- at the backslash or the `$` before this byte, and else at this one
abbrev pub odd_place : Odd → ℕ → ℕ
odd_place odd.Joined count = count - 1
odd_place odd.Loose count = count
odd_place odd.Apostrophe count = count
odd_place odd.Dropped count = count
odd_place odd.Kept count = count - 1
odd_place odd.Underscored count = count - 1

abbrev pub odd_finding : ℕ → Option Odd → List Finding
odd_finding count None = []
odd_finding count (Some o) = found_at (odd_place o count) (odd_kind o) (odd_sentence o) ∷ []

-- those of a text from here on, which so many bytes are before
abbrev pub odd_findings : Inside → ℕ → List ℕ → List Finding
odd_findings inside count [] = []
odd_findings inside count (b ∷ bs) = odd_finding count (odd_at inside b) ++ odd_findings (after inside b) (suc count) bs

-- a text begins between words
abbrev pub quoting_findings : List ℕ → List Finding
quoting_findings text = odd_findings (Gap false) 0 text
