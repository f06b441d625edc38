use Rattle.std.proofs.Common.{◌≡◌, ℕ, ap, sym, ◌∙◌}
use Rattle.envimg_core.specs.Image.{image_of}
use Rattle.envimg_core.specs.declared.geometry.Layout.{Layout}
use Rattle.env_session.specs.declared.session.Side.TheVariants as Side
use Rattle.env_session.specs.Session.{with_copy, saved_flag, saved_side}
use Rattle.env_session.specs.Spans.{now_of}
use Rattle.env_session.proofs.ImageLemmas.{saved_marks, sound_first, sound_second, is_redundant, not_first, not_second}
use Rattle.env_session.proofs.save.save_in.Goals as goal

pub returns-in-Ok-clause-now : goal.returns-in-Ok-clause-now
returns-in-Ok-clause-now c =
    let now = now_of c.args.stored.now c.args.vars.now c.args.current in
    c.in-Ok.ensures.now c.args.current
    ∙ ap (λ (f : ℕ). with_copy Side.First (image_of c.args.stored.now.geometry f c.args.vars.now.env) now) (c.next_flag-flag.ensures c.args.vars.now ∙ ap (λ (l : Layout). saved_flag l now c.args.current) c.layout-layout.ensures)

pub returns-in-Ok-clause-marks : goal.returns-in-Ok-clause-marks
returns-in-Ok-clause-marks c = saved_marks Side.First c.args.spans.now c.args.last c.index-spans-last.result c.save_first.new.span _ _ c.requires.within (c.in-Ok.ensures.mark c.args.current)

pub returns-in-Ok-clause-sound : goal.returns-in-Ok-clause-sound
returns-in-Ok-clause-sound c = sound_first c.args.stored.now.geometry _ _ _ (c.in-Ok.ensures.now c.args.current) c.in-Ok.ensures.size c.requires.sound

pub returns-in-Err-clause-refused_only : goal.returns-in-Err-clause-refused_only
returns-in-Err-clause-refused_only c =
    let is : Side.First ≡ saved_side c.args.stored.now.geometry.layout c.args.current = sym c.in-First.is ∙ c.saved_side.ensures ∙ ap (λ (l : Layout). saved_side l c.args.current) c.layout-layout.ensures in
    not_first _ c.args.spans.now c.args.last c.index-spans-last.result _ c.requires.within is c.in-Err.ensures.refused_only

pub returns-in-Ok-save_second-clause-now : goal.returns-in-Ok-save_second-clause-now
returns-in-Ok-save_second-clause-now c =
    let now = now_of c.args.stored.now c.args.vars.now c.args.current in
    c.in-Ok-save_second.ensures.now c.args.current
    ∙ ap (λ (f : ℕ). with_copy Side.Second (image_of c.args.stored.now.geometry f c.args.vars.now.env) now) (c.next_flag-flag.ensures c.args.vars.now ∙ ap (λ (l : Layout). saved_flag l now c.args.current) c.layout-layout.ensures)

pub returns-in-Ok-save_second-clause-marks : goal.returns-in-Ok-save_second-clause-marks
returns-in-Ok-save_second-clause-marks c = saved_marks Side.Second c.args.spans.now c.args.last c.index-spans-last.result c.save_second.new.span _ _ c.requires.within (c.in-Ok-save_second.ensures.mark c.args.current)

pub returns-in-Ok-save_second-clause-sound : goal.returns-in-Ok-save_second-clause-sound
returns-in-Ok-save_second-clause-sound c =
    let is : Side.Second ≡ saved_side c.args.stored.now.geometry.layout c.args.current = sym c.in-Second.is ∙ c.saved_side.ensures ∙ ap (λ (l : Layout). saved_side l c.args.current) c.layout-layout.ensures in
    sound_second c.args.stored.now.geometry _ _ _ (is_redundant c.args.stored.now.geometry.layout c.args.current is) (c.in-Ok-save_second.ensures.now c.args.current) c.in-Ok-save_second.ensures.size c.requires.sound

pub returns-in-Err-save_second-clause-refused_only : goal.returns-in-Err-save_second-clause-refused_only
returns-in-Err-save_second-clause-refused_only c =
    let is : Side.Second ≡ saved_side c.args.stored.now.geometry.layout c.args.current = sym c.in-Second.is ∙ c.saved_side.ensures ∙ ap (λ (l : Layout). saved_side l c.args.current) c.layout-layout.ensures in
    not_second _ c.args.spans.now c.args.last c.index-spans-last.result _ c.requires.within is c.in-Err-save_second.ensures.refused_only
