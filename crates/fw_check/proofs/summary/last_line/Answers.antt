use Rattle.std.proofs.Common.{codes}
use Rattle.fw_check.specs.Summaries.{several}
use Rattle.fw_check.proofs.SummaryLemmas.{three_parts}
use Rattle.fw_check.proofs.summary.last_line.Goals as goal

pub returns : goal.returns
returns c =
    three_parts (several c.args.scripts (codes " script") (codes " looked at, ")) (several c.args.errors (codes " error") (codes ", "))
    (several c.args.warnings (codes " warning") (codes "\n")) _ _ _ _ c.new-line.ensures.items c.in_ok-push_several.ensures
    c.in_ok-push_several-2.ensures c.in_ok-push_several-3.ensures
