use Rattle.std.proofs.Common.{Ok, ap, ◌∙◌}
use Rattle.clap.specs.Words.{found_of, rows_of}
use Rattle.fw_arguments.specs.Checks.{environment_check_by}
use Rattle.fw_arguments.specs.DryRuns.{and_then}
use Rattle.fw_arguments.proofs.check_requests.read_environment_check.Goals as goal

pub returns-in-Ok : goal.returns-in-Ok
returns-in-Ok c =
    ap (λ check. Ok check) c.environment_check_by.ensures
    ∙ ap (λ s. and_then s (λ rules. Ok (environment_check_by (rows_of (found_of c.args.found.now)) rules))) c.in-Ok.ensures

pub returns-in-Err : goal.returns-in-Err
returns-in-Err c = ap (λ s. and_then s (λ rules. Ok (environment_check_by (rows_of (found_of c.args.found.now)) rules))) c.in-Err.ensures
