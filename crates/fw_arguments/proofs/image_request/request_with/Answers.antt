use Rattle.std.proofs.Common.{ap, ◌∙◌}
use Rattle.clap.specs.Words.{found_of, rows_of}
use Rattle.fw_arguments.specs.DryRuns.{and_then}
use Rattle.fw_arguments.specs.GivenTexts.{given_text_view}
use Rattle.fw_arguments.specs.ImageRequests.{request_by}
use Rattle.fw_arguments.proofs.image_request.request_with.Goals as goal

pub returns-in-Ok : goal.returns-in-Ok
returns-in-Ok c =
    c.request_by.ensures
    ∙ ap (λ layout. and_then layout (request_by c.args.order (rows_of (found_of c.args.found.now)) (given_text_view c.args.text))) c.in-Ok.ensures

pub returns-in-Err : goal.returns-in-Err
returns-in-Err c =
    ap (λ layout. and_then layout (request_by c.args.order (rows_of (found_of c.args.found.now)) (given_text_view c.args.text))) c.in-Err.ensures
