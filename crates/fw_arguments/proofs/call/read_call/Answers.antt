use Rattle.std.proofs.Common.{ap, ◌∙◌}
use Rattle.clap.specs.Words.{found_of, rows_of}
use Rattle.fw_arguments.specs.Calls.{with_image}
use Rattle.fw_arguments.specs.DryRuns.{and_then}
use Rattle.fw_arguments.proofs.call.read_call.Goals as goal

pub returns-in-Ok : goal.returns-in-Ok
returns-in-Ok c =
    c.with_image.ensures ∙ ap (λ image. and_then image (with_image c.args.order c.args.name.now (rows_of (found_of c.args.found.now)))) c.in-Ok.ensures

pub returns-in-Err : goal.returns-in-Err
returns-in-Err c = ap (λ image. and_then image (with_image c.args.order c.args.name.now (rows_of (found_of c.args.found.now)))) c.in-Err.ensures
