-- What the arguments of `session` and `run` ask for (docs/dry-runs.md).
use Rattle.std.specs.Prelude.{ℕ, ◌||◌, nat_le, Bool, List, [], ◌∷◌, ◌++◌, Option, Some, None, Result, Ok, Err, codes, if◌then◌else◌, map, option_map, option_and_then, unwrap_or, is_some}
use Rattle.std.specs.Borrow.{Bor}
use Rattle.clap.specs.Words.{Row, Text, first_of}
use Rattle.text_parts.specs.declared.digits.Base.TheVariants.{Decimal}
use Rattle.text_parts.specs.Numerals.{numeral}
use Rattle.run_limits.specs.Limits.{Bounds, bounds, most_steps, most_depth, most_word, most_output}
use Rattle.hush_commands.specs.declared.shell.Shell.{Shell}
use Rattle.fw_arguments.specs.Shells.{board_shell, shell_of, strict_shell, usual_depth}
use Rattle.fw_arguments.specs.Values.{all_values, first_or, is_given, value_or}
use Rattle.fw_arguments.specs.Words.{usual_steps, usual_word, usual_output}
use Rattle.fw_arguments.specs.declared.dry_runs.DryRun as dry_runs
use Rattle.fw_arguments.specs.declared.dry_runs.GivenScript as scripts
use Rattle.fw_arguments.specs.declared.dry_runs.GivenScript.TheVariants as code
use Rattle.fw_arguments.specs.declared.dry_runs.ScriptRun as script_runs

-- whose rules count, whether the copies are written back, the stand-ins' file and the board file, if there are any, the
-- names of commands that don't return, and the limits of each block
pub record DryRun : Type 0 where
  pub shell : Shell
  pub write : Bool
  pub stand_ins : Option Text
  pub board : Option Text
  pub boots : List Text
  pub resets : List Text
  pub limits : Bounds

-- the number, if it is at most `most`
abbrev pub at_most : ℕ → ℕ → Option ℕ
at_most most n = if nat_le n most then Some n else None

-- one or more decimal digits whose value is at most `most`
abbrev pub number_in : ℕ → Text → Option ℕ
number_in most text = option_and_then (at_most most) (numeral Decimal text)

-- what is wrong with the number of an option
abbrev pub bad : (option most : Text) → Text
bad option most =
    codes "' for '--" ++ option ++ codes " <N>': not a number from 0 to " ++ most ++ 10 ∷ 10 ∷ codes "For more information, try '--help'." ++ 10 ∷ []

-- the number that an option gives, or the usual one if it isn't given
abbrev pub number_of : (id usual : Text) → ℕ → Text → List Row → Result ℕ Text
number_of id usual most why rows = value_or why (first_or usual id rows) (number_in most (first_or usual id rows))

abbrev pub and_then : {A B : Type 0} → Result A Text → (A → Result B Text) → Result B Text
and_then (Ok a) next = next a
and_then (Err text) next = Err text

abbrev pub steps_of : List Row → Result ℕ Text
steps_of rows = number_of (codes "steps") usual_steps most_steps (bad (codes "steps") (codes "1000000")) rows

abbrev pub depth_of : Shell → List Row → Result ℕ Text
depth_of shell rows = number_of (codes "depth") (usual_depth shell) most_depth (bad (codes "depth") (codes "16")) rows

abbrev pub word_of : List Row → Result ℕ Text
word_of rows = number_of (codes "word") usual_word most_word (bad (codes "word") (codes "65536")) rows

abbrev pub output_of : List Row → Result ℕ Text
output_of rows = number_of (codes "output") usual_output most_output (bad (codes "output") (codes "16777216")) rows

-- the limits of each block, or the text for the first number that is wrong
abbrev pub limits_of : Shell → List Row → Result Bounds Text
limits_of shell rows =
    and_then (steps_of rows) (λ steps. and_then (depth_of shell rows) (λ depth. and_then (word_of rows) (λ word.
    and_then (output_of rows) (λ output. Ok (bounds steps depth word output)))))

abbrev pub run_within : Shell → List Row → Bounds → DryRun
run_within shell rows limits = record {
  shell = shell;
  write = is_given (codes "write") rows;
  stand_ins = first_of (codes "stubs") rows;
  board = first_of (codes "board") rows;
  boots = all_values (codes "boots") rows;
  resets = all_values (codes "resets") rows;
  limits = limits;
}

abbrev pub dry_run_by : List Row → Shell → Result DryRun Text
dry_run_by rows shell = and_then (limits_of shell rows) (λ limits. Ok (run_within shell rows limits))

-- a session's shell is the strict one if none is named
abbrev pub dry_run_of : List Row → Result DryRun Text
dry_run_of rows = and_then (shell_of strict_shell rows) (dry_run_by rows)

-- a script to run: these variables, one after the other; a text among the arguments; that of a file
pub data GivenScript : Type 0 where
  Names : List Text → GivenScript
  Words : Text → GivenScript
  File : Text → GivenScript

-- the run of a script, whether it has to boot, and whether its commands are printed
pub record ScriptRun : Type 0 where
  pub dry : DryRun
  pub must_boot : Bool
  pub trace : Bool
  pub script : GivenScript

-- what is wrong if there is no script, or more than one
abbrev pub run_usage : Text
run_usage = codes "Usage: fwenv run [OPTIONS] [NAMES]..." ++ 10 ∷ 10 ∷ codes "For more information, try '--help'." ++ 10 ∷ []

abbrev pub no_script : Text
no_script =
    codes "error: the following required arguments were not provided:" ++ 10 ∷ codes "  <NAMES|-e <SCRIPT>|-f <FILE>>" ++ 10 ∷ 10 ∷ run_usage

abbrev pub several_scripts : Text
several_scripts = codes "error: only one of '[NAMES]...', '-e <SCRIPT>' and '-f <FILE>' can be given" ++ 10 ∷ 10 ∷ run_usage

abbrev pub text_by : Option Text → Option Text → Result GivenScript Text
text_by None None = Err no_script
text_by (Some text) None = Ok (Words text)
text_by None (Some path) = Ok (File path)
text_by (Some text) (Some path) = Err several_scripts

abbrev pub script_by : List Text → Option Text → Option Text → Result GivenScript Text
script_by [] text path = text_by text path
script_by (n ∷ names) text path = if is_some text || is_some path then Err several_scripts else Ok (Names (n ∷ names))

abbrev pub script_of : List Row → Result GivenScript Text
script_of rows = script_by (all_values (codes "names") rows) (first_of (codes "text") rows) (first_of (codes "script") rows)

abbrev pub script_run : Shell → List Row → Bounds → GivenScript → ScriptRun
script_run shell rows limits script = record {
  dry = run_within shell rows limits;
  must_boot = is_given (codes "must_boot") rows;
  trace = is_given (codes "trace") rows;
  script = script;
}

abbrev pub script_within : Shell → List Row → Bounds → Result ScriptRun Text
script_within shell rows limits =
    and_then (script_of rows) (λ script. Ok (script_run shell rows limits script))

abbrev pub script_run_by : List Row → Shell → Result ScriptRun Text
script_run_by rows shell = and_then (limits_of shell rows) (script_within shell rows)

-- a run's shell is a board's if none is named
abbrev pub script_run_of : List Row → Result ScriptRun Text
script_run_of rows = and_then (shell_of board_shell rows) (script_run_by rows)

-- the code's answers, in this form
abbrev pub texts : Option (Bor (List (Bor Text))) → List Text
texts words = unwrap_or (option_map (λ w. map (λ x. x.now) w.now) words) []

abbrev pub dry_run_view : dry_runs.DryRun → DryRun
dry_run_view r = record {
  shell = r.shell;
  write = r.write;
  stand_ins = option_map (λ path. path.now) r.stand_ins;
  board = option_map (λ path. path.now) r.board;
  boots = texts r.boots;
  resets = texts r.resets;
  limits = r.limits;
}

abbrev pub script_view : scripts.GivenScript → GivenScript
script_view (code.Names names) = Names (map (λ n. n.now) names.now)
script_view (code.Words text) = Words text.now
script_view (code.File path) = File path.now

abbrev pub script_run_view : script_runs.ScriptRun → ScriptRun
script_run_view r = record {
  dry = dry_run_view r.dry;
  must_boot = r.must_boot;
  trace = r.trace;
  script = script_view r.script;
}
