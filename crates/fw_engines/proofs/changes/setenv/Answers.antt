use Rattle.std.proofs.Common.{◌≡◌, ℕ, List, [], Bor, arith, inl, map, refl, rules, sym, ap, ◌∙◌, eqb-true, length}
use Rattle.std.specs.Slice.Iter.{iter_rest}
use Rattle.std.specs.Iterator.Adapters.{copied_source}
use Rattle.std.proofs.iter.Yields.{Copied-Drains}
use Rattle.std.proofs.lemmas.Bool.{eqb-false}
use Rattle.std.proofs.lemmas.List.{length-map}
use Rattle.text_parts.specs.Words.{spaced, texts}
use Rattle.fw_engines.specs.Changes.{LacksMemoryToSet}
use Rattle.fw_engines.proofs.ChangeLemmas.{none_spaced, one_spaced, ran_out, set_ends}
use Rattle.fw_engines.proofs.changes.setenv.Goals as goal

pub returns-then-is_empty : goal.returns-then-is_empty
returns-then-is_empty g c =
    set_ends c.set_value.result _ _ c.args.name.now _ (map (λ w. w.now) c.args.words.now)
    (none_spaced (λ w. w.now) c.args.words.now (eqb-true _ _ (sym c.is_empty.ensures ∙ c.if-is_empty.true))) c.set_value.ensures

pub returns-then-words-eq1 : goal.returns-then-words-eq1
returns-then-words-eq1 g c =
    let d : Bor (List ℕ) = record { ref_ptr = (0, 0); now = [] } in
    set_ends c.set_value-then-words-eq1.result _ _ c.args.name.now _ (map (λ w. w.now) c.args.words.now) (one_spaced (λ w. w.now) c.args.words.now d c.if-words-eq1.true) c.set_value-then-words-eq1.ensures

pub returns-in-Err : goal.returns-in-Err
returns-in-Err g c =
    let words = map (λ w. w.now) c.args.words.now in
    let some = eqb-false (length c.args.words.now) 0 (sym c.is_empty.ensures ∙ c.if-is_empty.false) in
    ran_out c.stopped.result _ c.args.session.now _ _ (LacksMemoryToSet c.args.session.now c.args.name.now words) c.stopped.ensures
    (inl (omega (arith, length-map c.args.words.now (λ w. w.now), some, c.if-words-eq1.false), refl))

pub returns-in-Ok : goal.returns-in-Ok
returns-in-Ok g c =
    let h = c.in-Ok.ensures.joined in
    let rest : iter_rest (copied_source c.copied.result) ≡ c.args.words.now = search rules in
    set_ends c.set_value-in-Ok.result _ _ c.args.name.now _ (map (λ w. w.now) c.args.words.now)
    (c.deref.ensures.value ∙ h.2 ∙ ap (λ (ws : List (Bor (List ℕ))). spaced (texts ws)) (Copied-Drains c.copied.result h.0 h.1 ∙ rest)) c.set_value-in-Ok.ensures
