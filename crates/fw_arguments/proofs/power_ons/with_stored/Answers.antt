use Rattle.std.proofs.Common.{ap, ◌∙◌}
use Rattle.clap.specs.Words.{found_of, rows_of}
use Rattle.fw_arguments.specs.DryRuns.{and_then}
use Rattle.fw_arguments.specs.PowerOns.{with_ways}
use Rattle.fw_arguments.proofs.power_ons.with_stored.Goals as goal

pub returns-in-Ok : goal.returns-in-Ok
returns-in-Ok c =
    c.with_ways.ensures ∙ ap (λ n. and_then n (with_ways c.args.shell (rows_of (found_of c.args.found.now)) c.args.limits c.args.stored)) c.in-Ok.ensures

pub returns-in-Err : goal.returns-in-Err
returns-in-Err c = ap (λ n. and_then n (with_ways c.args.shell (rows_of (found_of c.args.found.now)) c.args.limits c.args.stored)) c.in-Err.ensures
