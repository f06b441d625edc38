use Rattle.std.proofs.Common.{Ok, ap, ◌∙◌}
use Rattle.clap.specs.Words.{found_of, rows_of}
use Rattle.fw_arguments.specs.DryRuns.{and_then, run_within}
use Rattle.fw_arguments.proofs.dry_runs.dry_run_by.Goals as goal

pub returns-in-Ok : goal.returns-in-Ok
returns-in-Ok c =
    ap (λ run. Ok run) c.dry_run_within.ensures
    ∙ ap (λ l. and_then l (λ limits. Ok (run_within c.args.shell (rows_of (found_of c.args.found.now)) limits))) c.in-Ok.ensures

pub returns-in-Err : goal.returns-in-Err
returns-in-Err c = ap (λ l. and_then l (λ limits. Ok (run_within c.args.shell (rows_of (found_of c.args.found.now)) limits))) c.in-Err.ensures
