use Rattle.std.proofs.Common.{ap, ◌∙◌}
use Rattle.clap.specs.Words.{found_of, rows_of}
use Rattle.fw_arguments.specs.DryRuns.{and_then, script_within}
use Rattle.fw_arguments.proofs.dry_runs.script_run_by.Goals as goal

pub returns-in-Ok : goal.returns-in-Ok
returns-in-Ok c = c.with_limits.ensures ∙ ap (λ l. and_then l (script_within c.args.shell (rows_of (found_of c.args.found.now)))) c.in-Ok.ensures

pub returns-in-Err : goal.returns-in-Err
returns-in-Err c = ap (λ l. and_then l (script_within c.args.shell (rows_of (found_of c.args.found.now)))) c.in-Err.ensures
