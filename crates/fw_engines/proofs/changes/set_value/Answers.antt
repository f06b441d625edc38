use Rattle.std.proofs.Common.{◌≡◌, ◌∷◌, [], refl, sym, ap, ◌∙◌, Some, None, subst}
use Rattle.fw_engines.specs.Changes.{Changes, LacksMemory, silent, refused_by}
use Rattle.env_session.specs.Session.{saved}
use Rattle.envimg_core.specs.Pieces.{Entry}
use Rattle.env_session.specs.Requests.{refusal_in}
use Rattle.env_session.proofs.LawLemmas.{imported_none}
use Rattle.std.specs.Prelude.{false}
use Rattle.fw_engines.proofs.ChangeLemmas.{at_write, ran_out, one_written, text_ends, silent_ends, set_refused, set_accepted, done_accepted, done_refused}
use Rattle.fw_engines.proofs.changes.set_value.Goals as goal

pub returns-in-Err : goal.returns-in-Err
returns-in-Err g c =
    let h = c.args.session.now in
    let w : Entry = (c.args.name.now, Some c.args.value.now) in
    ran_out c.stopped.result _ h _ _ (LacksMemory h (w ∷ []) 0) c.stopped.ensures
    (at_write h h c.write.new.session 0 (w ∷ []) 0 w [] (imported_none h) refl c.in-Err.ensures.growing c.in-Err.ensures.unchanged)

pub returns-in-Ok-Some : goal.returns-in-Ok-Some
returns-in-Ok-Some g c =
    let h = c.args.session.now in
    let n = c.args.name.now in
    let v = c.args.value.now in
    let r = c.in-Ok-Some.refusal in
    let lacks = LacksMemory h ((n, Some v) ∷ []) 0 in
    let some : Some r ≡ refusal_in h n (Some v) false = sym c.in-Ok-Some.field-0-is ∙ c.in-Ok-Some.ensures.refusal in
    subst (λ d. Changes (record { session = h; errors = g.E.Write.contents c.args.errors.now }) (record { session = c.write.new.session; errors = g.E.Write.contents c.print_refusal.new.errors }) d lacks c.print_refusal.result)
    (sym (set_refused h n v r some))
    (text_ends c.print_refusal.result _ _ h _ (refused_by r n h) lacks (c.in-Ok-Some.ensures.done ∙ done_refused h n (Some v) r some) c.print_refusal.ensures)

pub returns-in-Ok-None : goal.returns-in-Ok-None
returns-in-Ok-None g c =
    let h = c.args.session.now in
    let n = c.args.name.now in
    let v = c.args.value.now in
    let none : None ≡ refusal_in h n (Some v) false = sym c.in-Ok-None.field-0-is ∙ c.in-Ok-None.ensures.refusal in
    let now = c.in-Ok-None.ensures.done ∙ done_accepted h n (Some v) none in
    silent_ends c.save.result _ h c.write.new.session c.save.new.session _ ((n, Some v) ∷ []) 1
    (one_written h c.write.new.session (n, Some v) none c.in-Ok-None.ensures.done) refl (set_accepted h n v none ∙ ap (λ m. silent (saved m)) (sym now)) c.save.ensures
