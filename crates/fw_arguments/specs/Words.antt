-- The arguments of the command line, in clap's rules (docs/tools.md, "The command line").
use Rattle.std.specs.Prelude.{◌≡◌, true, false, List, [], ◌∷◌, ◌++◌, Option, Some, codes, find}
use Rattle.std.specs.Option.{option_and_then}
use Rattle.std.specs.Str.{bytes_eq}
use Rattle.clap.specs.Lexer.{usize_max}
use Rattle.clap.specs.Simple.{new_shape}
use Rattle.clap.specs.Words.{App, Row, Rule, Text, app_of, found_of, matched_of, new_rule, with_rule, with_subcommand}
use Rattle.clap.specs.declared.builder.command.Command.{Command}
use Rattle.clap.specs.declared.builder.command.Command.TheViews.{out-Command}
use Rattle.clap.specs.declared.builder.action.ArgAction.TheVariants.{Append, SetTrue}
use Rattle.clap.specs.declared.parser.matches.ArgMatches.{ArgMatches}
use Rattle.clap.specs.declared.parser.matches.ValueSource.{ValueSource}
use Rattle.clap.specs.declared.parser.matches.ValueSource.TheVariants.{CommandLine}
use Rattle.clap.specs.declared.builder.action.ArgAction.TheVariants as action
use Rattle.std.specs.List.{fold}
use Rattle.fw_arguments.specs.Table as table
use Rattle.fw_arguments.specs.Table.{row_of, seen}
use Rattle.fw_arguments.specs.declared.program_name.Subcommand.{Subcommand}
use Rattle.fw_arguments.specs.declared.program_name.TheConstants.{SUBCOMMANDS}
use Rattle.fw_arguments.specs.declared.table.Names.{Names}
use Rattle.fw_arguments.specs.declared.table.Names.TheVariants.{Operand, Letter, Long, Both, More}
use Rattle.fw_arguments.specs.declared.table.Takes.{Takes}
use Rattle.fw_arguments.specs.declared.table.Takes.TheVariants.{Nothing, Version, One, Wanted, Any, Many, Usual}
use Rattle.fw_arguments.specs.declared.command_rows.TheConstants.{FWENV}
use Rattle.fw_arguments.specs.declared.run_options.TheConstants.{USUAL_STEPS, USUAL_WORD, USUAL_OUTPUT, USUAL_SIZE}
use Rattle.fw_arguments.specs.declared.boot_options.TheConstants.{USUAL_STORED, USUAL_WAYS}
use Rattle.envimg_core.specs.declared.geometry.Order.{Order}
use Rattle.envimg_core.specs.declared.geometry.Order.TheVariants.{Little, Big}

abbrev pub with_takes : Takes Text → Rule → Rule
with_takes Nothing rule = record rule { action = Some SetTrue }
with_takes Version rule = record rule { action = Some action.Version }
with_takes (One name) rule = record rule { value_names = 1 }
with_takes (Wanted name) rule = record rule { value_names = 1; required = true }
with_takes (Any name) rule = record rule { value_names = 1; range = Some (record { start_inclusive = 0; end_inclusive = usize_max }) }
with_takes (Many name) rule = record rule { value_names = 1; action = Some Append }
with_takes (Usual name usual) rule = record rule { value_names = 1; defaults = usual ∷ [] }

abbrev pub with_names : Names Text → Rule → Rule
with_names Operand rule = rule
with_names (Letter c) rule = record rule { short = Some c }
with_names (Long name) rule = record rule { long = Some name }
with_names (Both c name) rule = record rule { short = Some c; long = Some name }
with_names (More c name alias) rule = record rule { short = Some c; long = Some name; aliases = rule.aliases ++ alias ∷ [] }

abbrev pub rule_of_row : table.Row → Rule
rule_of_row r = with_names r.names (with_takes r.takes (new_rule r.id))

abbrev pub with_row : App → table.Row → App
with_row app r = with_rule app (rule_of_row r)

-- a row's command
abbrev pub app_of_row : table.Called → App
app_of_row c = fold with_row (record { top = record (new_shape c.name) { has_version = c.has_version }; subs = [] }) c.options

abbrev pub with_called : App → Subcommand → App
with_called app s = with_subcommand app (app_of_row (row_of s)).top

-- the command of fwenv with these subcommands
abbrev pub fwenv_with : List Subcommand → App
fwenv_with subcommands = fold with_called (app_of_row (seen FWENV)) subcommands

abbrev pub fwenv : App
fwenv = fwenv_with SUBCOMMANDS

-- the limits of a run if none are given: steps, bytes of a word, bytes of the text; those of power-ons: environments and ways;
-- and the size of an image in memory
abbrev pub usual_steps : Text
usual_steps = USUAL_STEPS.now

abbrev pub usual_word : Text
usual_word = USUAL_WORD.now

abbrev pub usual_output : Text
usual_output = USUAL_OUTPUT.now

abbrev pub usual_stored : Text
usual_stored = USUAL_STORED.now

abbrev pub usual_ways : Text
usual_ways = USUAL_WAYS.now

abbrev pub usual_size : Text
usual_size = USUAL_SIZE.now

-- a command with these rules, which may be the subcommand of another
abbrev pub IsTool : App → Command → Type 0
IsTool app c = (app_of c ≡ app) × ((out-Command c).has_globals ≡ false)

-- where the value of an argument comes from
abbrev pub source_in : Text → List Row → Option ValueSource
source_in id rows = option_and_then (λ r. r.source) (find (λ r. bytes_eq r.id id) rows)

-- the byte order by where the flag comes from: from the command line, or from nowhere
abbrev pub order_by : Option ValueSource → Order
order_by (Some CommandLine) = Big
order_by source = Little

-- the byte order by what was found in the arguments
abbrev pub order_in : ArgMatches → Order
order_in m = order_by (option_and_then (λ a. a.source) (matched_of (found_of m) (codes "big-endian")))

-- big-endian if one of two places chooses it
abbrev pub either_order : Order → Order → Order
either_order Big other = Big
either_order Little other = other
