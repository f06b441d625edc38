-- What the arguments of `check` ask for (docs/check.md).
use Rattle.std.specs.Prelude.{◌||◌, ◌++◌, Bool, not, List, map, Option, Some, None, Result, Ok, Err, codes, if◌then◌else◌, option_map}
use Rattle.std.specs.List.{find}
use Rattle.clap.specs.Words.{Row, Text, first_of}
use Rattle.hush_commands.specs.declared.shell.Shell.{Shell}
use Rattle.finding_kinds.specs.Choices.{Choice, choice_view}
use Rattle.finding_kinds.specs.Kinds.{is_code}
use Rattle.finding_kinds.specs.declared.choice.Format.{Format}
use Rattle.finding_kinds.specs.declared.choice.Choice as choices
use Rattle.fw_arguments.specs.DryRuns.{and_then, texts}
use Rattle.fw_arguments.specs.Formats.{format_of}
use Rattle.fw_arguments.specs.Shells.{board_shell, shell_of}
use Rattle.fw_arguments.specs.Values.{all_values, is_given}
use Rattle.fw_arguments.specs.declared.check_requests.EnvironmentCheck as environments
use Rattle.fw_arguments.specs.declared.check_requests.FileCheck as files

-- a check over an environment: whose rules count, the stand-ins' file, the board file and that of known names, if there
-- are any, what counts, the names that it begins with, and the paths of the scripts in files that are checked over it
pub record EnvironmentCheck : Type 0 where
  pub shell : Shell
  pub stand_ins : Option Text
  pub board : Option Text
  pub known : Option Text
  pub choice : Choice
  pub names : List Text
  pub scripts : List Text

-- a check of the scripts in files alone
pub record FileCheck : Type 0 where
  pub shell : Shell
  pub stand_ins : Option Text
  pub board : Option Text
  pub choice : Choice
  pub paths : List Text

-- the first of these that isn't a code
abbrev pub wrong_code : List Text → Option Text
wrong_code texts = find (λ text. not (is_code text)) texts

-- what is wrong with it
abbrev pub bad_code : Text
bad_code =
    codes "' for '--ignore <CODE>'\n  [possible values: carriage-return, backslashes, syntax, joined-lines, loose-operators, apostrophes, backslashes-in-quotes, underscored-names, other-shell, unknown-command, exit, many-words, and-or, if-status, loop-status, stale-status, wrong-use, test-operator, run-undefined, run-unknown, empty-value, hidden-assignment, empty-assignment, quoted-for, reserved-words-of-for, undefined-name, reread-value, no-variable, no-script, value-type]\n\nFor more information, try '--help'.\n"

abbrev pub choice_by : List Row → Format → Choice
choice_by rows format = record { ignored = all_values (codes "ignore") rows; strict = is_given (codes "strict") rows; all = is_given (codes "all") rows; format = format }

abbrev pub choice_unless : Option Text → List Row → Result Choice Text
choice_unless (Some word) rows = Err (codes "error: invalid value '" ++ word ++ bad_code)
choice_unless None rows = and_then (format_of rows) (λ format. Ok (choice_by rows format))

-- what counts, and how it is told
abbrev pub choice_of : List Row → Result Choice Text
choice_of rows = choice_unless (wrong_code (all_values (codes "ignore") rows)) rows

-- whose rules count and what does, or what is wrong with one of them; the shell is a board's if none is named
abbrev pub rules_of : List Row → Result (Shell × Choice) Text
rules_of rows = and_then (shell_of board_shell rows) (λ shell. and_then (choice_of rows) (λ choice. Ok (shell, choice)))

abbrev pub environment_check_by : List Row → Shell × Choice → EnvironmentCheck
environment_check_by rows rules =
    record { shell = rules.0; stand_ins = first_of (codes "stubs") rows; board = first_of (codes "board") rows; known = first_of (codes "known") rows; choice = rules.1; names = all_values (codes "names") rows; scripts = all_values (codes "script") rows }

abbrev pub environment_check_of : List Row → Result EnvironmentCheck Text
environment_check_of rows = and_then (rules_of rows) (λ rules. Ok (environment_check_by rows rules))

-- whether an environment is named
abbrev pub names_environment : List Row → Bool
names_environment rows = is_given (codes "config") rows || (is_given (codes "env") rows || (is_given (codes "env-source") rows || is_given (codes "env-plain") rows))

-- whether something is given that is of an environment
abbrev pub needs_environment : List Row → Bool
needs_environment rows = is_given (codes "names") rows || (is_given (codes "default") rows || (is_given (codes "size") rows || (is_given (codes "known") rows || is_given (codes "all") rows)))

-- what is wrong if it is given with the scripts of files alone
abbrev pub file_alone : Text
file_alone =
    codes "error: the argument '-f <FILE>' cannot be used with '[NAMES]...', '--default <FILE>', '--size <N>', '--known <FILE>' or '--all' without '-c <FILE>', '--env <FILE>', '--env-source <FILE>' or '--env-plain <FILE>'\n\nUsage: fwenv check [OPTIONS] [NAMES]...\n\nFor more information, try '--help'.\n"

abbrev pub file_check_by : List Text → List Row → Shell × Choice → FileCheck
file_check_by paths rows rules = record { shell = rules.0; stand_ins = first_of (codes "stubs") rows; board = first_of (codes "board") rows; choice = rules.1; paths = paths }

abbrev pub file_check_of : List Text → List Row → Result FileCheck Text
file_check_of paths rows =
    if needs_environment rows then Err file_alone
    else and_then (rules_of rows) (λ rules. Ok (file_check_by paths rows rules))

-- the code's answers, in this form
abbrev pub rules_view : Shell × choices.Choice → Shell × Choice
rules_view rules = (rules.0, choice_view rules.1)

abbrev pub environment_check_view : environments.EnvironmentCheck → EnvironmentCheck
environment_check_view c =
    record { shell = c.shell; stand_ins = option_map (λ p. p.now) c.stand_ins; board = option_map (λ p. p.now) c.board; known = option_map (λ p. p.now) c.known; choice = choice_view c.choice; names = texts c.names; scripts = texts c.scripts }

abbrev pub file_check_view : files.FileCheck → FileCheck
file_check_view c = record { shell = c.shell; stand_ins = option_map (λ p. p.now) c.stand_ins; board = option_map (λ p. p.now) c.board; choice = choice_view c.choice; paths = map (λ p. p.now) c.paths.now }
