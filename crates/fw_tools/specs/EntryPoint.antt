-- What the program does with its arguments and streams (docs/tools.md, "The command line").
use Rattle.std.specs.Prelude.{◌≡◌, ◌⊎◌, ℕ, ◌==◌, nat_le, not, Bool, false, List, [], ◌∷◌, ◌++◌, Option, Some, None, codes, if◌then◌else◌}
use Rattle.std.specs.List.{find}
use Rattle.std.specs.Str.{bytes_eq}
use Rattle.std.specs.Io.KnownBytes.{Appends}
use Rattle.std.specs.declared.io.ErrorKind as io_error
use Rattle.std.specs.declared.io.ErrorKind.TheVariants as io
use Rattle.clap.specs.Words.{IsAmong, Row, Text}
use Rattle.clap.specs.declared.error.kind.ErrorKind.{ErrorKind}
use Rattle.clap.specs.declared.error.kind.ErrorKind.TheVariants.{DisplayHelp, DisplayVersion, OutOfMemory}
use Rattle.envimg_core.specs.declared.geometry.Order.{Order}
use Rattle.fw_engines.specs.Shown.{Shows}
use Rattle.fw_engines.specs.Streams.{AppendsFront, AppendsPart, Streams, Writers, writers_of}
use Rattle.fw_tools.specs.CheckRuns.{unchecked}
use Rattle.fw_tools.specs.Subcommands.{Called}
use Rattle.fw_arguments.specs.Report.{asked_of}
use Rattle.fw_tools.specs.Said.{Says, message_of}
use Rattle.fw_files.specs.WrittenBack.{AreLeft, Devices}
use Rattle.fw_arguments.specs.ProgramNames.{called_by, faults, name_in, order_of}
use Rattle.fw_arguments.specs.declared.program_name.ProgramName.{ProgramName}
use Rattle.fw_arguments.specs.declared.program_name.ProgramName.TheVariants.{Fwenv, Printenv, Setenv}
use Rattle.fw_engines.specs.declared.tool_end.ToolEnd.{ToolEnd}
use Rattle.fw_engines.specs.declared.tool_end.StreamFault.TheVariants.{Write, Memory}
use Rattle.fw_files.specs.FileTexts.{Holds}

-- the text on standard error if the arguments can't be read
abbrev pub message_without_words : io_error.ErrorKind → List ℕ
message_without_words io.OutOfMemory = message_of Memory
message_without_words io.InvalidData = codes "fwenv: a word of the command line is not UTF-8" ++ 10 ∷ []
message_without_words kind = codes "fwenv: cannot read the command line" ++ 10 ∷ []

-- arguments ask for a check if `check` is the first of them that doesn't begin with `-`; the very first is the program's own name
abbrev pub is_flag : Text → Bool
is_flag [] = false
is_flag (b ∷ bs) = b == 45

abbrev pub is_check : Option Text → Bool
is_check None = false
is_check (Some word) = bytes_eq word (codes "check")

abbrev pub begins_check : List Text → Bool
begins_check words = is_check (find (λ word. not (is_flag word)) words)

abbrev pub asks_check : List Text → Bool
asks_check [] = false
asks_check (path ∷ words) = begins_check words

-- the status of arguments that are refused under a name, and if memory runs out over them
abbrev pub refused_status : ProgramName → List Text → ℕ
refused_status Printenv words = 1
refused_status Setenv words = 1
refused_status name words = if asks_check words then unchecked else 1

-- memory ran out before anything was written
abbrev pub LacksMemory : (refused : ℕ) → Writers → Writers → ℕ → Type 0
LacksMemory refused old new status = (new.output ≡ old.output) × AppendsFront old.errors new.errors (message_of Memory) × (status ≡ refused)

-- a text was written on standard output, status 0
abbrev pub PrintsHelp : Writers → Writers → ℕ → List ℕ → Type 0
PrintsHelp old new status text = Appends old.output new.output text × (new.errors ≡ old.errors) × (status ≡ 0)

-- less than the text was written, and that is reported
abbrev pub BreaksOff : (refused : ℕ) → Writers → Writers → ℕ → List ℕ → Type 0
BreaksOff refused old new status text =
    AppendsPart old.output new.output text × AppendsFront old.errors new.errors (message_of Write) × (status ≡ refused)

abbrev pub Helps : (refused : ℕ) → Writers → Writers → ℕ → Type 0
Helps refused old new status = (text : List ℕ) × (PrintsHelp old new status text ⊎ BreaksOff refused old new status text)

-- a text was written on standard error, as far as it was taken
abbrev pub Complains : (refused : ℕ) → Writers → Writers → ℕ → Type 0
Complains refused old new status = (text : List ℕ) × (new.output ≡ old.output) × AppendsFront old.errors new.errors text × (status ≡ refused)

-- what is printed for arguments of which clap reports this
abbrev pub RepliesTo : (refused : ℕ) → ErrorKind → Writers → Writers → ℕ → Type 0
RepliesTo refused DisplayHelp = Helps refused
RepliesTo refused DisplayVersion = Helps refused
RepliesTo refused OutOfMemory = LacksMemory refused
RepliesTo refused kind = Complains refused

-- the image is shown under this name for this number of arguments, whatever they are
abbrev pub is_shown : ProgramName → ℕ → Bool
is_shown Fwenv count = nat_le count 1
is_shown name count = false

-- the image on standard input is shown, and what stopped that is reported
abbrev pub ShowsAndSays : Order → Streams → Streams → ℕ → Type 0
ShowsAndSays order old new status =
    (end : ToolEnd) × (between : Option (List ℕ)) × Shows order old (record new { errors = between }) end
    × Says end.fault between new.errors × (status ≡ end.status)

abbrev pub refused_in : List Text → ℕ
refused_in words = refused_status (name_in words) words

-- arguments that clap's rules refuse are answered, and so is running out of memory, with nothing read
abbrev pub RepliesToWords : List Text → Streams → Streams → ℕ → Type 0
RepliesToWords words old new status =
    (new.input ≡ old.input)
    × (LacksMemory (refused_in words) (writers_of old) (writers_of new) status
    ⊎ ((kind : ErrorKind) × IsAmong kind (faults words) × RepliesTo (refused_in words) kind (writers_of old) (writers_of new) status))

-- what is done for arguments that clap's rules accept: a subcommand is called, or the image on standard input
-- is shown in the byte order that they choose
abbrev pub Does : (holds wrote : Holds) → (refused : ℕ) → Order → Option (Text × List Row) → Devices → Streams → Streams → ℕ → Type 0
Does holds wrote refused order (Some called) devices old new status = Called holds wrote refused (asked_of order called.0 called.1) devices old new status
Does holds wrote refused order None devices old new status = ShowsAndSays order old new status × AreLeft devices

-- a whole run
abbrev pub Runs : (holds wrote : Holds) → List Text → Devices → Streams → Streams → ℕ → Type 0
Runs holds wrote words devices old new status =
    ((faults words ≡ []) × Does holds wrote (refused_in words) (order_of words) (called_by words) devices old new status)
    ⊎ (RepliesToWords words old new status × AreLeft devices)
