-- What is done for a check (docs/check.md).
use Rattle.std.specs.Prelude.{◌≡◌, ℕ, true, List, [], ◌∷◌, ◌++◌, Option, Some, None, codes, is_some, if◌then◌else◌, option_map}
use Rattle.std.specs.Str.{bytes_eq}
use Rattle.std.specs.Borrow.{Bor}
use Rattle.std.specs.List.{AllByRecursion}
use Rattle.clap.specs.Words.{Text}
use Rattle.env_session.specs.Session.{Held}
use Rattle.hush_commands.specs.Hardware.{Hardware, hardware}
use Rattle.fw_arguments.specs.Calls.{Call}
use Rattle.fw_arguments.specs.Checks.{EnvironmentCheck, FileCheck}
use Rattle.fw_check.specs.Called.{given_with}
use Rattle.fw_check.specs.EntryPlaces.{EnvironmentText}
use Rattle.fw_check.specs.FileChecks.{Checks, ChecksFiles, FileScript, paths_of}
use Rattle.fw_engines.specs.Streams.{Writers}
use Rattle.fw_engines.specs.declared.tool_end.ToolEnd.{ToolEnd}
use Rattle.fw_tools.specs.Said.{Says}
use Rattle.fw_files.specs.Files.{AreRulesOf, AreStubsOf}
use Rattle.fw_files.specs.KnownNames.{AreKnownOf}
use Rattle.fw_tools.specs.declared.hardware.GivenHardware.{GivenHardware}
use Rattle.fw_files.specs.FileTexts.{Holds}
use Rattle.fw_files.specs.Files.{IsTextAt}
use Rattle.fw_files.specs.Source.{KeptText}

-- a path in the code's form
abbrev pub path_view : Option (Bor Text) → Option Text
path_view path = option_map (λ p. p.now) path

-- what stands in for hardware, by the paths of stand-ins and of a board file; answers of a board may be open
abbrev pub IsHardwareRead : Holds → Option Text → Option Text → Option Hardware → Type 0
IsHardwareRead holds stand_ins board None = ⊥
IsHardwareRead holds stand_ins board (Some h) = AreStubsOf holds stand_ins h.stubs × AreRulesOf holds true board h.rules

-- there is some if one of the files is given
abbrev pub IsHardwareGiven : Holds → Option Text → Option Text → Option Hardware → Type 0
IsHardwareGiven holds None None h = h ≡ None
IsHardwareGiven holds None (Some path) h = IsHardwareRead holds None (Some path) h
IsHardwareGiven holds (Some path) board h = IsHardwareRead holds (Some path) board h

-- it, in the code's form
abbrev pub given_hardware : GivenHardware → Hardware
given_hardware given = hardware given.board given.stand_ins

-- the status of a check that can't be made, or whose findings can't be printed: 1 is only for what it finds
abbrev pub unchecked : ℕ
unchecked = 2

abbrev pub check_status : ToolEnd → ℕ
check_status end = if is_some end.fault then unchecked else end.status

-- what stopped a check is reported after what it printed, if anything did
abbrev pub Ends : (Writers → ToolEnd → Type 0) → Writers → ℕ → Type 0
Ends Printed new status =
    (end : ToolEnd) × (said : Option (List ℕ)) × Printed (record { output = new.output; errors = said }) end × Says end.fault said new.errors
    × (status ≡ check_status end)

-- the scripts at these paths
abbrev pub IsScriptAt : Holds → FileScript → Type 0
IsScriptAt holds script = IsTextAt holds script.path script.text

abbrev pub AreScriptsAt : Holds → (paths : List Text) → List FileScript → Type 0
AreScriptsAt holds paths scripts = (paths_of scripts ≡ paths) × AllByRecursion (IsScriptAt holds) scripts

-- one more of them
abbrev pub AddsScriptAt : Holds → (path : Text) → (old new : List FileScript) → Type 0
AddsScriptAt holds path old new =
    (text : List ℕ) × IsTextAt holds path text × (new ≡ old ++ record { path = path; text = text } ∷ [])

-- the text that is all of an environment, if it is one for import in a file. Standard input has no places
abbrev pub text_at : (path : Text) → KeptText → Option EnvironmentText
text_at path kept =
    if bytes_eq path (codes "-") then None
    else Some (record { path = path; text = kept.text; entries = kept.entries })

abbrev pub text_of : (image : Option ℕ) → (path : Option Text) → Option KeptText → Option EnvironmentText
text_of (Some size) (Some path) (Some kept) = text_at path kept
text_of image path kept = None

abbrev pub environment_text : Call → Option KeptText → Option EnvironmentText
environment_text call kept = text_of call.image call.defaults.path kept

-- the scripts of an environment, which may be all of a text, are checked, and those in files over it
abbrev pub ChecksOver : Holds → EnvironmentCheck → Option EnvironmentText → Held → Writers → Writers → ℕ → Type 0
ChecksOver holds check text session old new status =
    (h : Option Hardware) × (known : List Text) × (scripts : List FileScript) × IsHardwareGiven holds check.stand_ins check.board h
    × AreKnownOf holds check.known known × AreScriptsAt holds check.scripts scripts
    × Ends (Checks (given_with check.shell h known) session.now.env text check.choice check.names scripts old) new status

-- the same for scripts in files alone
abbrev pub ChecksFile : Holds → FileCheck → Writers → Writers → ℕ → Type 0
ChecksFile holds check old new status =
    (h : Option Hardware) × (scripts : List FileScript) × IsHardwareGiven holds check.stand_ins check.board h × AreScriptsAt holds check.paths scripts
    × Ends (ChecksFiles (given_with check.shell h []) check.choice scripts old) new status
