-- The names that the program answers to, and what the command line's arguments ask for under each
-- (docs/tools.md, "fw_printenv and fw_setenv").
use Rattle.std.specs.Prelude.{◌||◌, nat_eq, Bool, true, List, [], ◌∷◌, Option, Some, None, codes, if◌then◌else◌}
use Rattle.std.specs.List.{ends_with}
use Rattle.std.specs.Str.{bytes_eq}
use Rattle.clap.specs.Words.{App, Kinds, Row, Text, fault_of, found_of, matches_of, rows_of, subcommand_of, subcommand_rows_of}
use Rattle.clap.specs.declared.parser.matches.ArgMatches.{ArgMatches}
use Rattle.envimg_core.specs.declared.geometry.Order.{Order}
use Rattle.std.specs.List.{find}
use Rattle.fw_arguments.specs.Table.{Called, is_called, seen}
use Rattle.fw_arguments.specs.declared.program_name.TheConstants.{SUBCOMMANDS}
use Rattle.fw_arguments.specs.declared.command_rows.TheConstants.{FW_PRINTENV, FW_SETENV}
use Rattle.fw_arguments.specs.Words.{app_of_row, fwenv, fwenv_with, order_by, source_in}
use Rattle.fw_arguments.specs.declared.program_name.ProgramName.{ProgramName}
use Rattle.fw_arguments.specs.declared.program_name.ProgramName.TheVariants.{Fwenv, FwenvWith, Printenv, Setenv}
use Rattle.fw_arguments.specs.declared.program_name.Subcommand.{Subcommand}

-- the last part of a path is this name
abbrev pub is_named : Text → Text → Bool
is_named name path = bytes_eq path name || ends_with nat_eq path (47 ∷ name)

abbrev pub called_or_all : Option Subcommand → ProgramName
called_or_all (Some s) = FwenvWith s
called_or_all None = Fwenv

-- fwenv with these arguments after its name
abbrev pub fwenv_by : List Text → ProgramName
fwenv_by [] = Fwenv
fwenv_by (first ∷ words) = called_or_all (find (is_called first) SUBCOMMANDS)

-- the first argument is the program's own name
abbrev pub name_by : Text → List Text → ProgramName
name_by path words = if is_named (codes "fw_printenv") path then Printenv else if is_named (codes "fw_setenv") path then Setenv else fwenv_by words

abbrev pub name_in : List Text → ProgramName
name_in [] = Fwenv
name_in (path ∷ words) = name_by path words

-- the command of another tool's row: of an option that is given twice the last one counts
abbrev pub client_of : Called → App
client_of row = let app = app_of_row row in record app { top = record app.top { args_override_self = true } }

-- the command of a name, in clap's rules: if the first argument after it is a subcommand, all that follow are
-- that one's, and the command has no other
abbrev pub app_of_name : ProgramName → App
app_of_name Fwenv = fwenv
app_of_name (FwenvWith s) = fwenv_with (s ∷ [])
app_of_name Printenv = client_of (seen FW_PRINTENV)
app_of_name Setenv = client_of (seen FW_SETENV)

-- what clap's rules report of the arguments: nothing, or the kinds of what is wrong with them
abbrev pub faults : List Text → Kinds
faults words = fault_of (app_of_name (name_in words)) words

-- the byte order that the arguments before a subcommand choose
abbrev pub order_under : ProgramName → List Text → Order
order_under name words = order_by (source_in (codes "big-endian") (matches_of (app_of_name name) words))

abbrev pub order_of : List Text → Order
order_of words = order_under (name_in words) words

-- the subcommand that the arguments call, and what clap's rules find in it; fw_printenv and fw_setenv are
-- called with all of the arguments
abbrev pub called_under : ProgramName → List Text → Option (Text × List Row)
called_under Fwenv words = subcommand_of fwenv words
called_under (FwenvWith s) words = subcommand_of (app_of_name (FwenvWith s)) words
called_under Printenv words = Some (codes "fw_printenv", matches_of (app_of_name Printenv) words)
called_under Setenv words = Some (codes "fw_setenv", matches_of (app_of_name Setenv) words)

abbrev pub called_by : List Text → Option (Text × List Row)
called_by words = called_under (name_in words) words

-- the same by what was found in the arguments
abbrev pub called_in : ProgramName → ArgMatches → Option (Text × List Row)
called_in Fwenv m = subcommand_rows_of m
called_in (FwenvWith s) m = subcommand_rows_of m
called_in Printenv m = Some (codes "fw_printenv", rows_of (found_of m))
called_in Setenv m = Some (codes "fw_setenv", rows_of (found_of m))
