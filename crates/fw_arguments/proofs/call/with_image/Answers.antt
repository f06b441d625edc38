use Rattle.std.proofs.Common.{ap, ◌∙◌}
use Rattle.clap.specs.Words.{found_of, rows_of}
use Rattle.fw_arguments.specs.Calls.{with_copy}
use Rattle.fw_arguments.specs.DryRuns.{and_then}
use Rattle.fw_arguments.proofs.call.with_image.Goals as goal

pub returns-in-Ok : goal.returns-in-Ok
returns-in-Ok c =
    c.with_copy.ensures ∙ ap (λ copy. and_then copy (with_copy c.args.order c.args.name.now (rows_of (found_of c.args.found.now)) c.args.image)) c.in-Ok.ensures

pub returns-in-Err : goal.returns-in-Err
returns-in-Err c = ap (λ copy. and_then copy (with_copy c.args.order c.args.name.now (rows_of (found_of c.args.found.now)) c.args.image)) c.in-Err.ensures
