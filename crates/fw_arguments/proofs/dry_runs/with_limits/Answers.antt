use Rattle.std.proofs.Common.{Ok, ap}
use Rattle.clap.specs.Words.{found_of, rows_of}
use Rattle.fw_arguments.specs.DryRuns.{and_then, script_run, script_view}
use Rattle.fw_arguments.proofs.CallLemmas.{script_is}
use Rattle.fw_arguments.proofs.dry_runs.with_limits.Goals as goal

pub returns-in-Ok : goal.returns-in-Ok
returns-in-Ok c =
    script_is c.args.shell (rows_of (found_of c.args.found.now)) _ c.args.limits _ _ (script_view c.in-Ok.script) c.in-Ok.ensures
    c.dry_run_within.ensures c.is_given.ensures c.is_given-in-Ok.ensures

pub returns-in-Err : goal.returns-in-Err
returns-in-Err c =
    let rows = rows_of (found_of c.args.found.now) in
    ap (λ s. and_then s (λ script. Ok (script_run c.args.shell rows c.args.limits script))) c.in-Err.ensures
