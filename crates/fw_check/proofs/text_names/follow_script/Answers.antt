use Rattle.std.proofs.Common.{ap, map, ◌∙◌}
use Rattle.std.specs.List.{flat_map}
use Rattle.fw_check.specs.Looking.{rules_in}
use Rattle.fw_check.specs.NameSets.{set_of, with_all}
use Rattle.fw_check.specs.Naming.{foreseen_names, given_names, written_names}
use Rattle.fw_check.specs.Statements.{statement_of}
use Rattle.fw_check.proofs.FoundLemmas.{ok-then}
use Rattle.fw_check.proofs.text_names.follow_script.Goals as goal

pub returns-clause-foreseen : goal.returns-clause-foreseen
returns-clause-foreseen c =
    let text = c.args.script.now.text in
    let items = c.deref-2.result.now in
    let same = ap (λ t. map (statement_of t) items) c.text-2.ensures ∙ ap (map (statement_of text)) c.deref-2.ensures.value ∙ c.in_ok-items.ensures.statements in
    ok-then c.gather_items.result _ _
    (λ e. e ∙ ap (λ ss. with_all (set_of c.args.gathered.now.foreseen) (flat_map (foreseen_names (rules_in c.args.lookups.now)) ss)) same)
    c.gather_items.ensures.foreseen

pub returns-clause-given : goal.returns-clause-given
returns-clause-given c =
    let text = c.args.script.now.text in
    let items = c.deref-2.result.now in
    let same = ap (λ t. map (statement_of t) items) c.text-2.ensures ∙ ap (map (statement_of text)) c.deref-2.ensures.value ∙ c.in_ok-items.ensures.statements in
    ok-then c.gather_items.result _ _
    (λ e. e ∙ ap (λ ss. with_all (set_of c.args.gathered.now.given) (flat_map (given_names (rules_in c.args.lookups.now)) ss)) same)
    c.gather_items.ensures.given

pub returns-clause-written : goal.returns-clause-written
returns-clause-written c =
    let text = c.args.script.now.text in
    let items = c.deref-2.result.now in
    let same = ap (λ t. map (statement_of t) items) c.text-2.ensures ∙ ap (map (statement_of text)) c.deref-2.ensures.value ∙ c.in_ok-items.ensures.statements in
    ok-then c.gather_items.result _ _
    (λ e. e ∙ ap (λ ss. with_all (set_of c.args.gathered.now.written) (flat_map (written_names (rules_in c.args.lookups.now)) ss)) same)
    c.gather_items.ensures.written
