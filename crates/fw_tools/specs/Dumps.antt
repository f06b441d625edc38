-- What `find` does (docs/tools.md, "Environments in a dump").
use Rattle.std.specs.Prelude.{◌≡◌, ◌⊎◌, ℕ, List, Option, Some}
use Rattle.std.specs.Io.KnownBytes.{Keeps}
use Rattle.dump_search.specs.DumpLines.{dump_report}
use Rattle.fw_engines.specs.Streams.{Writers}
use Rattle.fw_engines.specs.Tool.{PrintsText}
use Rattle.fw_engines.specs.declared.tool_end.ToolEnd.{ToolEnd}
use Rattle.fw_engines.specs.declared.tool_end.StreamFault.TheVariants.{Memory}
use Rattle.fw_tools.specs.Said.{Says}
use Rattle.fw_files.specs.FileTexts.{Holds}
use Rattle.fw_files.specs.Files.{IsTextAt}

-- the lines for a dump are printed, or less than these; or memory ran out before
abbrev pub PrintsDump : (path dump : List ℕ) → Option (List ℕ) → Option (List ℕ) → ToolEnd → Type 0
PrintsDump path dump old new end =
    PrintsText old new (dump_report path dump).text (dump_report path dump).status end ⊎ ((end.fault ≡ Some Memory) × Keeps old new × (end.status ≡ 1))

-- and what stopped that is reported
abbrev pub ReportsDump : (path dump : List ℕ) → Writers → Writers → ℕ → Type 0
ReportsDump path dump old new status =
    (end : ToolEnd) × PrintsDump path dump old.output new.output end × Says end.fault old.errors new.errors × (status ≡ end.status)

-- for the bytes of the file at that path
abbrev pub Finds : Holds → (path : List ℕ) → Writers → Writers → ℕ → Type 0
Finds holds path old new status = (dump : List ℕ) × IsTextAt holds path dump × ReportsDump path dump old new status
