-- What is printed for a user at a terminal before anything is read (docs/tools.md, "At a terminal").
use Rattle.std.specs.Prelude.{ℕ, ◌||◌, nat_le, Bool, true, false, List, [], ◌++◌, length, codes, if◌then◌else◌}
use Rattle.std.specs.List.{list_any}
use Rattle.std.specs.Str.{bytes_eq}
use Rattle.clap.specs.Words.{Text}
use Rattle.fw_arguments.specs.ProgramNames.{name_in}
use Rattle.fw_arguments.specs.declared.program_name.ProgramName.{ProgramName}
use Rattle.fw_arguments.specs.declared.program_name.ProgramName.TheVariants.{FwenvWith, Fwenv}
use Rattle.fw_arguments.specs.declared.program_name.Subcommand.TheVariants.{Session}

abbrev pub image_awaited : List ℕ
image_awaited =
    codes "Usage: fwenv [OPTIONS] [COMMAND]\n" ++ codes "An environment image is awaited on standard input; --help has the subcommands.\n"

abbrev pub dot_lines : List ℕ
dot_lines =
    codes "A dot line runs the lines of script before it, and Ctrl-D ends the session:\n" ++ codes ".print  .save  .mark NAME  .undo [NAME]\n"

abbrev pub is_help : Text → Bool
is_help word = bytes_eq word (codes "-h") || bytes_eq word (codes "--help")

abbrev pub asks_help : List Text → Bool
asks_help words = list_any is_help words

-- a text if an image is read whatever the arguments are, or if a session is called and not its help
abbrev pub greeting_under : ProgramName → List Text → List ℕ
greeting_under Fwenv words = if nat_le (length words) 1 then image_awaited else []
greeting_under (FwenvWith Session) words = if asks_help words then [] else dot_lines
greeting_under name words = []

abbrev pub greeting : List Text → List ℕ
greeting words = greeting_under (name_in words) words

abbrev pub is_session : ProgramName → Bool
is_session (FwenvWith Session) = true
is_session name = false

abbrev pub talks : List Text → Bool
talks words = is_session (name_in words)
