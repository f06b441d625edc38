use Rattle.std.proofs.Common.{◌≡◌, ◌++◌, codes, subst, sym, append_assoc, ◌∙◌}
use Rattle.std.specs.Prelude.{OnOk}
use Rattle.fw_check.specs.FaultSentences.{form_text, lack_text}
use Rattle.fw_check.proofs.FoundLemmas.{ok-then}
use Rattle.fw_check.proofs.fault_sentences.push_lack.Goals as goal

pub returns-in-Name : goal.returns-in-Name
returns-in-Name c =
    let items = c.args.sentence.now.items in
    subst (λ l. OnOk c.push_for.result (c.push_for.new.sentence.items ≡ items ++ lack_text c.args.text.now c.args.met l)) (sym c.in-Name.is)
    (ok-then c.push_for.result _ _ (λ pushed. pushed ∙ append_assoc items (codes "no name for ") (form_text c.args.text.now c.in-Name.form)) c.push_for.ensures)

pub returns-in-In : goal.returns-in-In
returns-in-In c =
    let items = c.args.sentence.now.items in
    subst (λ l. OnOk c.push_for-in-In.result (c.push_for-in-In.new.sentence.items ≡ items ++ lack_text c.args.text.now c.args.met l)) (sym c.in-In.is)
    (ok-then c.push_for-in-In.result _ _ (λ pushed. pushed ∙ append_assoc items (codes "no `in` for ") (form_text c.args.text.now c.in-In.form)) c.push_for-in-In.ensures)
