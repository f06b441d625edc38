use Rattle.std.proofs.Common.{◌≡◌, ℕ, suc, ◌-◌, ◌<◌, length, ap, sym, subst, ◌∙◌, arith, rules}
use Rattle.std.proofs.lemmas.List.{with_items_is}
use Rattle.std.specs.Vec.{with_items}
use Rattle.envimg_core.proofs.Facts.{on_err_any}
use Rattle.env_session.specs.Session.{Held}
use Rattle.env_session.specs.SpanSteps.{on_nth, back_at, emptied, last_removed}
use Rattle.env_session.specs.Spans.{now_of, held_of, IsHeld}
use Rattle.env_session.proofs.MarkLemmas.{undo_fits, may_refuse, marks_count, is_held_removed, held_removed}
use Rattle.env_session.proofs.session.Session.remove_last.Goals as goal

pub undo_in-requires-clause-fits : goal.undo_in-requires-clause-fits
undo_in-requires-clause-fits c = rw c.deref_mut.ensures.value (undo_fits c.self.inside.stored c.self.inside.vars c.self.inside.current c.self.inside.spans.items c.self.inside.marks c.self.invariant)

pub returns-in_err-undo_in-clause-refused_only : goal.returns-in_err-undo_in-clause-refused_only
returns-in_err-undo_in-clause-refused_only c =
    let within : c.self.inside.marks < length c.self.inside.spans.items = omega (arith, c.self.invariant.few, c.self.invariant.many) in
    on_err_any c.from_residual.result _ (may_refuse c.self.inside.stored c.self.inside.defaults c.self.inside.vars c.self.inside.current c.self.inside.spans.items c.self.inside.marks c.args.self.now within c.self.view_is (rw (← c.deref_mut.ensures.value) c.in_err-undo_in.ensures.refused_only))

pub invariant_of-self-2 : goal.invariant_of-self-2
invariant_of-self-2 c =
    let back : (with_items c.self.inside.spans c.undo_in.new.spans).items ≡ c.undo_in.new.spans = with_items_is c.self.inside.spans _ (search rules) in
    let now = now_of c.self.inside.stored c.self.inside.vars c.self.inside.current in
    let is : now_of c.undo_in.new.stored c.undo_in.new.vars c.undo_in.new.current ≡ back_at c.self.inside.spans.items c.self.inside.marks now = rw (← c.deref_mut.ensures.value) c.in_ok-undo_in.ensures.back in
    let gone : c.undo_in.new.spans ≡ on_nth emptied c.self.inside.marks c.self.inside.spans.items = rw (← c.deref_mut.ensures.value) c.in_ok-undo_in.ensures.spans in
    let within : c.self.inside.marks < length c.self.inside.spans.items = omega (arith, c.self.invariant.few, c.self.invariant.many) in
    let count = marks_count c.self.inside.spans.items c.self.inside.marks (now_of c.self.inside.stored c.self.inside.vars c.self.inside.current) within in
    let same = ap (λ (h : Held). length h.marks) c.self.view_is in
    let next : c.self.inside.marks ≡ suc (c.self.inside.marks - 1) = omega (arith, c.requires, count, same) in
    rw back (is_held_removed c.self.inside.stored c.undo_in.new.stored c.self.inside.vars c.undo_in.new.vars c.self.inside.current c.undo_in.new.current c.self.inside.spans.items c.undo_in.new.spans (c.self.inside.marks - 1)
    (subst (IsHeld c.self.inside.stored c.self.inside.vars c.self.inside.current c.self.inside.spans.items) next c.self.invariant) c.undo_in.ensures.room c.undo_in.ensures.shape
    (is ∙ ap (λ (k : ℕ). back_at c.self.inside.spans.items k (now_of c.self.inside.stored c.self.inside.vars c.self.inside.current)) next)
    (gone ∙ ap (λ (k : ℕ). on_nth emptied k c.self.inside.spans.items) next))

pub returns-clause-undone : goal.returns-clause-undone
returns-clause-undone c =
    let back : (with_items c.self.inside.spans c.undo_in.new.spans).items ≡ c.undo_in.new.spans = with_items_is c.self.inside.spans _ (search rules) in
    let now = now_of c.self.inside.stored c.self.inside.vars c.self.inside.current in
    let is : now_of c.undo_in.new.stored c.undo_in.new.vars c.undo_in.new.current ≡ back_at c.self.inside.spans.items c.self.inside.marks now = rw (← c.deref_mut.ensures.value) c.in_ok-undo_in.ensures.back in
    let gone : c.undo_in.new.spans ≡ on_nth emptied c.self.inside.marks c.self.inside.spans.items = rw (← c.deref_mut.ensures.value) c.in_ok-undo_in.ensures.spans in
    let within : c.self.inside.marks < length c.self.inside.spans.items = omega (arith, c.self.invariant.few, c.self.invariant.many) in
    let count = marks_count c.self.inside.spans.items c.self.inside.marks (now_of c.self.inside.stored c.self.inside.vars c.self.inside.current) within in
    let same = ap (λ (h : Held). length h.marks) c.self.view_is in
    let next : c.self.inside.marks ≡ suc (c.self.inside.marks - 1) = omega (arith, c.requires, count, same) in
    rw back (held_removed c.self.inside.stored c.undo_in.new.stored c.self.inside.defaults c.self.inside.vars c.undo_in.new.vars c.self.inside.current c.undo_in.new.current c.self.inside.spans.items c.undo_in.new.spans (c.self.inside.marks - 1)
    (omega (arith, within, next)) c.undo_in.ensures.shape
    (is ∙ ap (λ (k : ℕ). back_at c.self.inside.spans.items k (now_of c.self.inside.stored c.self.inside.vars c.self.inside.current)) next)
    (gone ∙ ap (λ (k : ℕ). on_nth emptied k c.self.inside.spans.items) next)
    ∙ ap (λ (k : ℕ). last_removed (held_of c.self.inside.stored c.self.inside.defaults c.self.inside.vars c.self.inside.current c.self.inside.spans.items k)) (sym next)
    ∙ ap last_removed c.self.view_is)
