use Rattle.std.proofs.Common.{◌+◌, [], ◌∷◌, ap, subst, sym, ◌∙◌}
use Rattle.env_session.specs.Session.{bytes_of}
use Rattle.fw_files.specs.WrittenBack.{IsLeft, ShowsCopies, in_order, step_of}
use Rattle.std.specs.Prelude.{OnOk}
use Rattle.fw_files.proofs.ChangedLemmas.{both_left, first_second_shown, first_step, not_first, one_left}
use Rattle.fw_files.proofs.changed_copies.write_into.Goals as goal

pub returns-in_default-None-clause-any_moment : goal.returns-in_default-None-clause-any_moment
returns-in_default-None-clause-any_moment g c = λ h left since.
    let source = c.args.source.now in
    let is = first_step c.in-Some.first source.first.start _ _ _ c.in-Some.ensures.step c.deref.ensures.value in
    one_left c.args.last c.in-Some.first source c.args.before c.args.stored.now.first.items _ _ left is (sym (ap bytes_of c.in_default-None.is-1)) ((c.write_back.ensures.any_moment h).each left since)

pub returns-in-First-clause-any_moment : goal.returns-in-First-clause-any_moment
returns-in-First-clause-any_moment g c = λ h left since.
    let source = c.args.source.now in
    let first = c.in-Some.first in
    let second = c.in-Some-change_of.second in
    let read = c.in-Some-Some.read in
    let device = g.D.Device.seen c.args.device.now in
    let is = first_step c.in-Some.first source.first.start _ _ _ c.in-Some.ensures.step c.deref.ensures.value in
    let is_second = c.in-Some-change_of.ensures.step ∙ ap (λ b. (c.args.before + read.start, read.bytes.items, b)) c.deref-in-Some-Some.ensures.value in
    subst (λ s. IsLeft c.args.last source c.args.before c.args.stored.now.first.items s device left) (sym (ap bytes_of c.in-Some-Some.is-1))
    (both_left c.args.last (second ∷ first ∷ []) first second source _ c.args.before read _ device left is is_second c.in-Some-Some.is-0
    (ap (λ l. in_order l (step_of first) (step_of second)) (sym c.in-First.is)) ((c.write_back-in-First.ensures.any_moment h).each left since))

pub returns-in_default-last : goal.returns-in_default-last
returns-in_default-last g c =
    let source = c.args.source.now in
    let first = c.in-Some.first in
    let second = c.in-Some-change_of.second in
    let read = c.in-Some-Some.read in
    let device = g.D.Device.seen c.args.device.now in
    let is = first_step c.in-Some.first source.first.start _ _ _ c.in-Some.ensures.step c.deref.ensures.value in
    let is_second = c.in-Some-change_of.ensures.step ∙ ap (λ b. (c.args.before + read.start, read.bytes.items, b)) c.deref-in-Some-Some.ensures.value in
    let done = c.write_back-in_default-last in
    record {
      shown = λ h. subst (λ s. OnOk done.result (ShowsCopies (g.D.Device.seen done.new.device) source c.args.before c.args.stored.now.first.items s)) (sym (ap bytes_of c.in-Some-Some.is-1))
          (first_second_shown done.result first second source _ c.args.before read _ (g.D.Device.seen done.new.device) is is_second c.in-Some-Some.is-0 (c.are_apart.ensures c.if-are_apart.true) (done.ensures.shown h));
      durable = λ h. done.ensures.durable h;
      any_moment = λ h left since. subst (λ s. IsLeft c.args.last source c.args.before c.args.stored.now.first.items s device left) (sym (ap bytes_of c.in-Some-Some.is-1))
          (both_left c.args.last (first ∷ second ∷ []) first second source _ c.args.before read _ device left is is_second c.in-Some-Some.is-0
          (not_first c.args.last (step_of first) (step_of second) c.in_default-last.not-First) ((done.ensures.any_moment h).each left since));
    }
