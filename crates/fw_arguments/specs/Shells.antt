-- Whose rules a run follows and a check goes by, as the arguments choose (docs/dry-runs.md, "The board's shell and the strict one").
use Rattle.std.specs.Prelude.{List, Option, Some, None, Result, codes, if◌then◌else◌}
use Rattle.std.specs.Str.{bytes_eq}
use Rattle.clap.specs.Words.{Row, Text}
use Rattle.hush_commands.specs.declared.shell.Shell.{Shell}
use Rattle.hush_commands.specs.declared.shell.Shell.TheVariants.{Strict, Board}
use Rattle.fw_arguments.specs.Values.{first_or, value_or}
use Rattle.fw_arguments.specs.declared.run_options.TheConstants.{BOARD_DEPTH, BOARD_SHELL, STRICT_DEPTH, STRICT_SHELL}

-- the names of the shells
abbrev pub board_shell : Text
board_shell = BOARD_SHELL.now

abbrev pub strict_shell : Text
strict_shell = STRICT_SHELL.now

-- the shell of this name, if there is one
abbrev pub shell_named : Text → Option Shell
shell_named name =
    if bytes_eq name board_shell then Some Board
    else if bytes_eq name strict_shell then Some Strict
    else None

-- what is wrong with another name
abbrev pub bad_shell : Text
bad_shell = codes "' for '--shell <SHELL>'\n  [possible values: board, strict]\n\nFor more information, try '--help'.\n"

-- the shell that is named, or the one of the usual name
abbrev pub shell_of : (usual : Text) → List Row → Result Shell Text
shell_of usual rows = value_or bad_shell (first_or usual (codes "shell") rows) (shell_named (first_or usual (codes "shell") rows))

-- how many starts may be inside one another if no number is given
abbrev pub usual_depth : Shell → Text
usual_depth Strict = STRICT_DEPTH.now
usual_depth Board = BOARD_DEPTH.now
