use Rattle.std.proofs.Common.{ap, ◌∙◌}
use Rattle.clap.specs.Words.{found_of, rows_of}
use Rattle.fw_arguments.specs.DryRuns.{and_then}
use Rattle.fw_arguments.specs.ImageRequests.{request_with}
use Rattle.fw_arguments.proofs.image_request.read_image_request.Goals as goal

pub returns-in-Ok : goal.returns-in-Ok
returns-in-Ok c = c.request_with.ensures ∙ ap (λ text. and_then text (request_with c.args.order (rows_of (found_of c.args.found.now)))) c.in-Ok.ensures

pub returns-in-Err : goal.returns-in-Err
returns-in-Err c = ap (λ text. and_then text (request_with c.args.order (rows_of (found_of c.args.found.now)))) c.in-Err.ensures
