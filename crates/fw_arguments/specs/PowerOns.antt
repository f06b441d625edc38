-- What the arguments of `boot` ask for (docs/boot.md).
use Rattle.std.specs.Prelude.{ℕ, nat_lt, Bool, List, length, Result, Ok, Err, codes, if◌then◌else◌}
use Rattle.clap.specs.Words.{Row, Text}
use Rattle.run_limits.specs.Limits.{Bounds}
use Rattle.hush_commands.specs.declared.shell.Shell.{Shell}
use Rattle.fw_arguments.specs.DryRuns.{DryRun, and_then, bad, dry_run_view, limits_of, number_of, run_within, texts}
use Rattle.fw_arguments.specs.Shells.{board_shell, shell_of}
use Rattle.fw_arguments.specs.Values.{all_values, is_given}
use Rattle.fw_arguments.specs.Words.{usual_stored, usual_ways}
use Rattle.fw_arguments.specs.declared.power_ons.PowerOns as power_ons

-- the options of a dry run, how many stored environments are powered on from, how many ways are listed, whether a graph is
-- printed, whether power-ons are counted, whether the power may fail at each save, and the scripts that the system may run once it has booted
pub record PowerOns : Type 0 where
  pub dry : DryRun
  pub stored : ℕ
  pub ways : ℕ
  pub dot : Bool
  pub counts : Bool
  pub cuts : Bool
  pub after : List Text

-- the most that may be asked for
abbrev pub most_stored : ℕ
most_stored = 100000

abbrev pub most_ways : ℕ
most_ways = 10000000

abbrev pub stored_of : List Row → Result ℕ Text
stored_of rows = number_of (codes "stored") usual_stored most_stored (bad (codes "stored") (codes "100000")) rows

abbrev pub ways_of : List Row → Result ℕ Text
ways_of rows = number_of (codes "ways") usual_ways most_ways (bad (codes "ways") (codes "10000000")) rows

-- the question of these has one answer more
abbrev pub most_scripts : ℕ
most_scripts = 254

abbrev pub many_scripts : Text
many_scripts = codes "error: '--after <FILE>' can be given at most 254 times\n\nFor more information, try '--help'.\n"

abbrev pub few_scripts : List Text → Result (List Text) Text
few_scripts paths = if nat_lt most_scripts (length paths) then Err many_scripts else Ok paths

abbrev pub scripts_of : List Row → Result (List Text) Text
scripts_of rows = few_scripts (all_values (codes "after") rows)

abbrev pub power_ons_in : Shell → List Row → Bounds → ℕ → ℕ → List Text → PowerOns
power_ons_in shell rows limits stored ways after = record {
  dry = run_within shell rows limits;
  stored = stored;
  ways = ways;
  dot = is_given (codes "dot") rows;
  counts = is_given (codes "bootcount") rows;
  cuts = is_given (codes "cuts") rows;
  after = after;
}

abbrev pub with_ways : Shell → List Row → Bounds → ℕ → ℕ → Result PowerOns Text
with_ways shell rows limits stored ways = and_then (scripts_of rows) (λ after. Ok (power_ons_in shell rows limits stored ways after))

abbrev pub with_stored : Shell → List Row → Bounds → ℕ → Result PowerOns Text
with_stored shell rows limits stored = and_then (ways_of rows) (with_ways shell rows limits stored)

abbrev pub power_ons_within : Shell → List Row → Bounds → Result PowerOns Text
power_ons_within shell rows limits = and_then (stored_of rows) (with_stored shell rows limits)

abbrev pub power_ons_by : List Row → Shell → Result PowerOns Text
power_ons_by rows shell = and_then (limits_of shell rows) (power_ons_within shell rows)

-- the shell is a board's if none is named; the first number that is wrong is told
abbrev pub power_ons_of : List Row → Result PowerOns Text
power_ons_of rows = and_then (shell_of board_shell rows) (power_ons_by rows)

-- the code's answers, in this form
abbrev pub power_ons_view : power_ons.PowerOns → PowerOns
power_ons_view p = record {
  dry = dry_run_view p.dry;
  stored = p.stored;
  ways = p.ways;
  dot = p.dot;
  counts = p.counts;
  cuts = p.cuts;
  after = texts p.after;
}
