-- What is printed of a file that can't be used (docs/tools.md, "Subcommands over files").
use Rattle.std.specs.Prelude.{ℕ, List, [], ◌∷◌, ◌++◌, Some, None, codes}
use Rattle.std.specs.Fmt.{decimal}
use Rattle.std.specs.List.{concat}
use Rattle.board_file.specs.BoardFiles.{fault_text}
use Rattle.env_source.specs.Faults.{flaw_text}
use Rattle.fw_engines.specs.declared.tool_end.StreamFault.TheVariants as stream
use Rattle.fw_files.specs.Files.{reason_in}
use Rattle.fw_files.specs.ForeignTexts.{foreign_ending}
use Rattle.fw_files.specs.declared.file_fault.FileFault.{FileFault}
use Rattle.fw_files.specs.declared.file_fault.FileFault.TheVariants as file
use Rattle.fw_files.specs.declared.reasons.Reason.{Reason}
use Rattle.fw_tools.specs.FaultNames.{Named, config_fault, refused_entry, stub_fault, text_fault}
use Rattle.fw_tools.specs.Said.{message_of}
use Rattle.fw_tools.specs.declared.explains.Explains.{Explains}
use Rattle.fw_tools.specs.declared.explains.Explains.TheVariants as line

-- what follows a path
abbrev pub line_end : List ℕ → List ℕ
line_end [] = 10 ∷ []
line_end (byte ∷ bytes) = codes ": " ++ (byte ∷ bytes) ++ 10 ∷ []

abbrev pub ending : Explains → Reason → List ℕ
ending line.Nothing why = 10 ∷ []
ending line.Reason why = line_end (reason_in why)

-- a path between two texts
abbrev pub path_line : (front path back : List ℕ) → List ℕ
path_line front path back = front ++ path ++ back

-- what is wrong in a line of a file
abbrev pub place_line : (path : List ℕ) → (line : ℕ) → (text : List ℕ) → List ℕ
place_line path line text = concat (codes "fwenv: " ∷ path ∷ codes ":" ∷ decimal line ∷ codes ": " ∷ text ∷ codes "\n" ∷ [])

-- which fault a file has, and in which line
abbrev pub named_line : (path : List ℕ) → Named → List ℕ
named_line path (name, None) = concat (codes "fwenv: " ∷ path ∷ codes ": " ∷ name ∷ codes "\n" ∷ [])
named_line path (name, Some line) =
    concat (codes "fwenv: " ∷ path ∷ codes ": " ∷ name ∷ codes " in line " ∷ decimal line ∷ codes "\n" ∷ [])

-- the line of a fault
abbrev pub fault_line : Explains → List ℕ → FileFault → List ℕ
fault_line explains path (file.CannotRead why) = path_line (codes "fwenv: cannot read ") path (ending explains why)
fault_line explains path (file.CannotWrite why) = path_line (codes "fwenv: cannot write ") path (ending explains why)
fault_line explains path file.TooShort = path_line (codes "fwenv: ") path (codes " is too short\n")
fault_line explains path (file.Foreign kind) = path_line (codes "fwenv: ") path (foreign_ending kind)
fault_line explains path file.Yaml =
    path_line (codes "fwenv: ") path (codes " is YAML: fwenv reads lines of DEVICE OFFSET SIZE\n")
fault_line explains path file.UbiVolume =
    path_line (codes "fwenv: ") path (codes " is a UBI volume by its name: fwenv reads files and block devices\n")
fault_line explains path file.Memory = message_of stream.Memory
fault_line explains path (file.Board fault) = place_line path fault.line (fault_text fault.kind)
fault_line explains path (file.Source fault) = place_line path fault.line (flaw_text fault.flaw)
fault_line explains path (file.NoName line) = place_line path line (codes "not a name of a variable")
fault_line explains path (file.Bare line) = place_line path line (codes "no = in this line; for a source in U-Boot's own form use --env-source")
fault_line explains path (file.Config fault) = named_line path (config_fault fault)
fault_line explains path (file.Text fault) = named_line path (text_fault fault)
fault_line explains path (file.Stubs fault) = named_line path (stub_fault fault)
fault_line explains path (file.Default line refusal) = named_line path (refused_entry line refusal)
