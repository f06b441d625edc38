-- What `status` does with its files (docs/status.md).
use Rattle.std.specs.Prelude.{◌≡◌, ℕ, List, Option, Some, None, Ok, option_map, string_bytes}
use Rattle.envcfg_core.specs.Config.{CopyPlace, Settings, config_of}
use Rattle.envcfg_core.specs.declared.place.Place.{Place}
use Rattle.envimg_core.specs.declared.geometry.Order.{Order}
use Rattle.fw_engines.specs.CopyStatus as lines
use Rattle.fw_engines.specs.CopyStatus.{Reports, file_status_of, status_of}
use Rattle.fw_engines.specs.Streams.{Writers}
use Rattle.fw_engines.specs.declared.copy_status.FoundCopy.{FoundCopy}
use Rattle.fw_engines.specs.declared.copy_status.Survey.{Survey}
use Rattle.fw_engines.specs.declared.tool_end.ToolEnd.{ToolEnd}
use Rattle.fw_arguments.specs.Report.{Copies, File, Report, Subject}
use Rattle.fw_files.specs.FileTexts.{Holds}
use Rattle.fw_files.specs.Files.{IsTextAt}
use Rattle.fw_files.specs.Locks.{HasWaited}
use Rattle.fw_tools.specs.Said.{Says}
use Rattle.fw_files.specs.Source.{shape_of}
use Rattle.fw_files.specs.declared.copies.ReadCopy.{ReadCopy}
use Rattle.fw_files.specs.declared.source.Source.{Source}

-- the lines were printed, and what stopped that is reported
abbrev pub PrintsReport : lines.Report → Writers → Writers → ℕ → Type 0
PrintsReport report old new status =
    (end : ToolEnd) × Reports old.output new.output report end × Says end.fault old.errors new.errors × (status ≡ end.status)

abbrev pub device_found : FoundCopy → List ℕ
device_found found = found.device.now

abbrev pub device_named : CopyPlace → List ℕ
device_named place = place.device

-- the copies were looked for where these settings name them
pub record IsSurveyBy (order : Order) (settings : Settings) (survey : Survey) : Type 0 where
  pub geometry : survey.geometry ≡ shape_of order settings
  pub first : device_found survey.first ≡ device_named settings.first
  pub second : option_map device_found survey.second ≡ option_map device_named settings.second

-- the settings are those of the text at a path, which is the survey's
abbrev pub IsSurveyOf : Holds → Order → (path : List ℕ) → Survey → Type 0
IsSurveyOf holds order path survey =
    (survey.path.now ≡ path) × IsTextAt holds path survey.config.now
    × ((settings : Settings) × (config_of survey.config.now ≡ Ok settings) × IsSurveyBy order settings survey)

-- ---- the code's survey of what was read

-- a device, where a copy begins in it, and the bytes from there on
abbrev pub Found : Type 0
Found = List ℕ × ℕ × List ℕ

abbrev pub found_view : FoundCopy → Found
found_view found = (found.device.now, found.start, found.bytes.now)

abbrev pub found_at : Place → ReadCopy → Found
found_at place copy = (string_bytes place.device, copy.start, copy.bytes.items)

-- the second one, if both its place and its copy are there
abbrev pub found_in : Option Place → Option ReadCopy → Option Found
found_in (Some place) (Some copy) = Some (found_at place copy)
found_in place copy = None

pub record IsSurveyIn (at text : List ℕ) (source : Source) (survey : Survey) : Type 0 where
  pub path : survey.path.now ≡ at
  pub config : survey.config.now ≡ text
  pub geometry : survey.geometry ≡ source.geometry
  pub first : found_view survey.first ≡ found_at source.config.first source.first
  pub second : option_map found_view survey.second ≡ found_in source.config.second source.second

-- ---- what is printed

-- of copies with some bytes, or of the bytes of a file
abbrev pub ReportsSubject : Holds → Order → Subject → Writers → Writers → ℕ → Type 0
ReportsSubject holds order (Copies path) old new status =
    (survey : Survey) × IsSurveyOf holds order path survey × PrintsReport (status_of survey) old new status
ReportsSubject holds order (File path) old new status =
    (bytes : List ℕ) × IsTextAt holds path bytes × PrintsReport (file_status_of order path bytes) old new status

-- locks may have been waited for, and nothing else is printed
abbrev pub HaltsAfterLocks : Writers → Writers → Type 0
HaltsAfterLocks old new = (new.output ≡ old.output) × HasWaited old.errors new.errors

-- locks may have been waited for before
abbrev pub ReportsOn : Holds → Report → Writers → Writers → ℕ → Type 0
ReportsOn holds report old new status =
    (waited : Option (List ℕ)) × HasWaited old.errors waited
    × ReportsSubject holds report.order report.subject (record { output = old.output; errors = waited }) new status
