use Rattle.std.proofs.Common.{ap, map, ◌∙◌}
use Rattle.std.specs.List.{flat_map}
use Rattle.fw_check.specs.Following.{follow_fronts}
use Rattle.fw_check.specs.Looking.{rules_in}
use Rattle.fw_check.specs.Naming.{asked_fronts}
use Rattle.fw_check.specs.Statements.{statement_of}
use Rattle.fw_check.proofs.FoundLemmas.{ok-then}
use Rattle.fw_check.proofs.asking.ask_in_script.Goals as goal

pub returns : goal.returns
returns c =
    let text = c.args.script.now.text in
    let items = c.deref.result.now in
    let same = ap (λ t. map (statement_of t) items) c.text.ensures ∙ ap (map (statement_of text)) c.deref.ensures.value ∙ c.in_ok-items.ensures.statements in
    ok-then c.ask_in_items.result _ _
    (λ e. e ∙ ap (λ ss. follow_fronts c.args.asked.now (flat_map (asked_fronts (rules_in c.args.lookups.now)) ss)) same)
    c.ask_in_items.ensures
