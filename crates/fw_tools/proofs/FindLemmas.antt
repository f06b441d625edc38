-- The status of a search.
use Rattle.std.proofs.Common.{ℕ, ◌≤◌, List, [], ◌∷◌, inl, inr, arith}
use Rattle.dump_search.specs.DumpLines.{dump_report, report_on}
use Rattle.dump_search.specs.Search.{environments}
use Rattle.dump_search.specs.declared.dump.Found.{Found}
use Rattle.fw_engines.specs.Streams.{Writers}
use Rattle.fw_tools.specs.Dumps.{Finds}
use Rattle.fw_tools.proofs.CheckLemmas.{text_small}
use Rattle.fw_files.specs.FileTexts.{Holds}

status_small : (path : List ℕ) (found : List Found) → (report_on path found).status ≤ 1
status_small path [] = omega arith
status_small path (one ∷ others) = omega arith

pub finds_small : (holds : Holds) (path : List ℕ) (old new : Writers) (status : ℕ) → Finds holds path old new status → status ≤ 1
finds_small holds path old new status (dump, held, (end, inl prints, says, is)) =
    omega (arith, is, text_small end old.output new.output (dump_report path dump).text (dump_report path dump).status (status_small path (environments dump)) prints)
finds_small holds path old new status (dump, held, (end, inr (fault, kept, one), says, is)) = omega (arith, is, one)
