use Rattle.std.proofs.Common.{ap, ◌∙◌}
use Rattle.clap.specs.Words.{found_of, rows_of}
use Rattle.fw_arguments.specs.GivenTexts.{given_text_view}
use Rattle.fw_arguments.specs.Words.{either_order}
use Rattle.fw_arguments.proofs.CallLemmas.{request_is}
use Rattle.fw_arguments.proofs.WordLemmas.{order_by_rows}
use Rattle.fw_arguments.proofs.image_request.request_in.Goals as goal

pub returns : goal.returns
returns c =
    request_is c.args.order _ (rows_of (found_of c.args.found.now)) (given_text_view c.args.text) c.args.layout c.args.size _ _
    (c.either_order.ensures ∙ ap (either_order c.args.order) (c.chosen_order.ensures ∙ order_by_rows c.args.found.now)) c.is_given.ensures c.first.ensures
