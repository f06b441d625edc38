use Rattle.std.proofs.Common.{◌≡◌, ℕ, List, false, eqb, length, sym, ap, ◌∙◌}
use Rattle.envcfg_core.specs.ImportSteps.{value_view}
use Rattle.envcfg_core.proofs.ImportLemmas.{entry_without_name, entry_with_name}
use Rattle.envcfg_core.proofs.import.read_entry.Goals as goal

pub returns-then-is_empty-clause-refused : goal.returns-then-is_empty-clause-refused
returns-then-is_empty-clause-refused c =
    entry_without_name c.args.rest.line c.name_len.result c.args.rest.text.now c.split_at.result.0.now c.requires.some c.requires.place
    c.name_len.ensures.value c.split_at.ensures.front (sym c.is_empty.ensures ∙ c.if-is_empty.true)

eqb-zero-at : {xs ys : List ℕ} → xs ≡ ys → eqb (length ys) 0 ≡ false → eqb (length xs) 0 ≡ false
eqb-zero-at e h = ap (λ zs. eqb (length zs) 0) e ∙ h

pub returns-clause-read : goal.returns-clause-read
returns-clause-read c =
    entry_with_name c.args.rest.line c.name_len.result c.args.rest.text.now c.in_ok-name.name.items c.split_at.result.1.now
    (value_view c.in_ok-value.value) _ c.requires.some c.requires.place c.name_len.ensures.value
    (c.in_ok-name.ensures.items ∙ c.split_at.ensures.front) c.split_at.ensures.back
    (eqb-zero-at c.in_ok-name.ensures.items (sym c.is_empty.ensures ∙ c.if-is_empty.false)) c.in_ok-value.ensures.value c.some_unless_empty-value.ensures
