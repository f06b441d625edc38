use Rattle.std.proofs.Common.{ap, sym, ◌∙◌}
use Rattle.clap.specs.Words.{found_of, rows_of}
use Rattle.fw_arguments.specs.GivenTexts.{given_text_view}
use Rattle.fw_arguments.specs.ImageRequests.{is_both_alone}
use Rattle.fw_arguments.proofs.CallLemmas.{both_refused}
use Rattle.fw_arguments.proofs.image_request.request_by.Goals as goal

pub returns-then-is_both_alone : goal.returns-then-is_both_alone
returns-then-is_both_alone c =
    both_refused c.args.order (rows_of (found_of c.args.found.now)) (given_text_view c.args.text) c.args.layout _ c.of.ensures
    (ap (is_both_alone c.args.layout) (sym c.is_given.ensures) ∙ sym c.is_both_alone.ensures ∙ c.if-is_both_alone.true)
