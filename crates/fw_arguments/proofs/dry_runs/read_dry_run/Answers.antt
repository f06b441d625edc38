use Rattle.std.proofs.Common.{ap, ◌∙◌}
use Rattle.clap.specs.Words.{found_of, rows_of}
use Rattle.fw_arguments.specs.DryRuns.{and_then, dry_run_by}
use Rattle.fw_arguments.proofs.dry_runs.read_dry_run.Goals as goal

pub returns-in-Ok : goal.returns-in-Ok
returns-in-Ok c = c.dry_run_by.ensures ∙ ap (λ s. and_then s (dry_run_by (rows_of (found_of c.args.found.now)))) c.in-Ok.ensures

pub returns-in-Err : goal.returns-in-Err
returns-in-Err c = ap (λ s. and_then s (dry_run_by (rows_of (found_of c.args.found.now)))) c.in-Err.ensures
