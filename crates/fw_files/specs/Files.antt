-- Files that are read whole, and why one can not be used (docs/tools.md, "Subcommands over files").
use Rattle.std.specs.Prelude.{◌≡◌, Bool, ℕ, List, [], Option, Some, None, Ok, Err, codes, if◌then◌else◌}
use Rattle.std.specs.FinMap as names
use Rattle.std.specs.Str.{bytes_eq}
use Rattle.std.specs.declared.io.ErrorKind.{ErrorKind}
use Rattle.std.specs.declared.io.ErrorKind.TheVariants.{IsADirectory, NotFound, PermissionDenied, ReadOnlyFilesystem, StorageFull}
use Rattle.envcfg_core.specs.Entries.{Entry, Outcome}
use Rattle.envcfg_core.specs.Import.{import_of}
use Rattle.envcfg_core.specs.SetScript.{set_script_of}
use Rattle.envcfg_core.specs.declared.entry.TextFault as texts
use Rattle.envcfg_core.specs.declared.entry.TextFault.TheVariants as text
use Rattle.hush_commands.specs.Stubs.{Statuses, stand_ins_of}
use Rattle.hush_commands.specs.declared.board_rules.Rule.{Rule}
use Rattle.board_file.specs.declared.board_fault.BoardFault.{BoardFault}
use Rattle.board_file.specs.declared.board_fault.LineFault.{LineFault}
use Rattle.board_file.specs.declared.board_fault.LineFault.TheVariants as boards
use Rattle.board_file.specs.BoardFiles.{board_of}
use Rattle.env_source.specs.declared.source_fault.Flaw.{Flaw}
use Rattle.env_source.specs.declared.source_fault.Flaw.TheVariants as sources
use Rattle.env_source.specs.declared.source_fault.SourceFault.{SourceFault}
use Rattle.fw_files.specs.declared.file_fault.FileFault.{FileFault}
use Rattle.fw_files.specs.declared.file_fault.FileFault.TheVariants as file
use Rattle.fw_files.specs.declared.reasons.Reason as reasons
use Rattle.fw_files.specs.declared.reasons.Reason.TheVariants as reason
use Rattle.fw_files.specs.FileTexts.{Holds}

-- the most bytes of a file that is read whole
abbrev pub file_limit : ℕ
file_limit = 16777216

-- the most bytes of a dump
abbrev pub dump_limit : ℕ
dump_limit = 1073741824

-- what is opened for a text: `-` is standard input
abbrev pub opened_path : List ℕ → List ℕ
opened_path path = if bytes_eq path (codes "-") then codes "/dev/stdin" else path

-- the file that is named so holds this text
abbrev pub IsTextAt : Holds → (path text : List ℕ) → Type 0
IsTextAt holds path text = holds (opened_path path) text

-- the entries of the text for import at a path, and of the set script
abbrev pub AreImportedAt : Holds → (path : List ℕ) → List Entry → Type 0
AreImportedAt holds path entries = (text : List ℕ) × IsTextAt holds path text × (import_of text ≡ Ok entries)

abbrev pub AreSetAt : Holds → (path : List ℕ) → List Entry → Type 0
AreSetAt holds path entries = (text : List ℕ) × IsTextAt holds path text × (set_script_of text ≡ Ok entries)

-- the fault of a text that is refused
abbrev pub text_fault : texts.TextFault → FileFault
text_fault text.Memory = file.Memory
text_fault fault = file.Text fault

-- the fault of a text that is read as this, or memory ran out
abbrev pub IsTextFault : Outcome → FileFault → Type 0
IsTextFault outcome (file.Text fault) = outcome ≡ Err fault
IsTextFault outcome file.Memory = Unit {0}
IsTextFault outcome fault = ⊥

-- the stand-ins are those of the text at a path, or there are none
abbrev pub AreStubsOf : Holds → Option (List ℕ) → Statuses → Type 0
AreStubsOf holds None stand_ins = stand_ins ≡ names.empty
AreStubsOf holds (Some path) stand_ins = (text : List ℕ) × IsTextAt holds path text × (stand_ins_of text ≡ Ok stand_ins)

-- the fault of a board file that is refused
abbrev pub fault_by : BoardFault → LineFault → FileFault
fault_by fault boards.Memory = file.Memory
fault_by fault kind = file.Board fault

abbrev pub board_fault : BoardFault → FileFault
board_fault fault = fault_by fault fault.kind

-- the fault of a source that is refused
abbrev pub source_fault_by : SourceFault → Flaw → FileFault
source_fault_by fault sources.Memory = file.Memory
source_fault_by fault flaw = file.Source fault

abbrev pub source_fault : SourceFault → FileFault
source_fault fault = source_fault_by fault fault.flaw

-- the rules are those of the text at a path, or there are none
abbrev pub AreRulesOf : Holds → (may_ask : Bool) → Option (List ℕ) → List Rule → Type 0
AreRulesOf holds may_ask None rules = rules ≡ []
AreRulesOf holds may_ask (Some path) rules = (text : List ℕ) × IsTextAt holds path text × (board_of may_ask text ≡ Ok rules)

-- ---- why

-- the reason that is reported for an error of this kind; for the others nothing is reported
abbrev pub reason_of : ErrorKind → List ℕ
reason_of NotFound = codes "no such file"
reason_of PermissionDenied = codes "permission denied"
reason_of IsADirectory = codes "it is a directory"
reason_of ReadOnlyFilesystem = codes "the file system is read-only"
reason_of StorageFull = codes "no space is left"
reason_of kind = []

-- and for each reason, which may also be one that std has no kind for
abbrev pub reason_in : reasons.Reason → List ℕ
reason_in reason.NoSuchFile = codes "no such file"
reason_in reason.Denied = codes "permission denied"
reason_in reason.Directory = codes "it is a directory"
reason_in reason.ReadOnly = codes "the file system is read-only"
reason_in reason.NoSpace = codes "no space is left"
reason_in reason.TooLong = codes "it is longer than 16777216 bytes"
reason_in reason.LongerThanDump = codes "it is longer than 1073741824 bytes"
reason_in reason.Changed = codes "another program changed it"
reason_in reason.Unknown = []

abbrev pub reason_by : ErrorKind → reasons.Reason
reason_by NotFound = reason.NoSuchFile
reason_by PermissionDenied = reason.Denied
reason_by IsADirectory = reason.Directory
reason_by ReadOnlyFilesystem = reason.ReadOnly
reason_by StorageFull = reason.NoSpace
reason_by kind = reason.Unknown

-- ---- faults

-- of a copy that may not be written, or can't be
abbrev pub IsUnwritable : FileFault → Type 0
IsUnwritable (file.CannotWrite why) = Unit {0}
IsUnwritable file.Memory = Unit {0}
IsUnwritable fault = ⊥
