use Rattle.std.proofs.Common.{◌≡◌, length, List, sym, subst, ap, ◌∙◌, arith, refl, Option}
use Rattle.hush_syntax.specs.Scripts.{subtree_at}
use Rattle.hush_run.specs.Rises.{IsLeft, with_behind}
use Rattle.hush_run.specs.Stacks.{Stack}
use Rattle.hush_run.specs.declared.frames.Frame.{Frame}
use Rattle.hush_run.specs.declared.due.Due.{Due}
use Rattle.hush_run.proofs.RiseLemmas.{left_here, step_up, nothing_behind, is_part}
use Rattle.hush_run.proofs.descent.rise_up.Goals as goal

pub loop-frame-init : goal.loop-frame-init
loop-frame-init c = record { leaves = left_here _ _ _ _ c.requires.stack c.requires.some c.requires.fits; capacity = refl }

pub loop-frame-smaller : goal.loop-frame-smaller
loop-frame-smaller c =
    let n = nothing_behind (subtree_at c.top.result.now) _ _ c.turn_of-due.result.behind c.turn_of-due.ensures.1 c.in-Over.is in
    let e : c.keep.new.frames.frames ≡ c.pop.new.self.frames = c.keep.ensures.frames ∙ ap (λ (b : Option Frame). with_behind b c.pop.new.self.frames) n in
    let g = ap (λ (s : Stack). length s.frames) c.in-Some.ensures.some in
    let h = ap (λ (fs : List Frame). length fs) e in
    omega (arith, h, g)

pub loop-frame-preserved : goal.loop-frame-preserved
loop-frame-preserved c =
    let l = step_up c.args.shell c.args.calls.now c.loop-frame.calls c.leave.new.calls c.args.frames.now.frames c.loop-frame.frames.frames c.pop.new.self.frames c.keep.new.frames.frames c.args.status.now c.loop-frame.status c.in-Some.frame c.turn_of-due.result c.top.result.now
    c.loop-frame.invariant.leaves (ap (λ (s : Stack). s.frames) c.in-Some.ensures.some) c.leave.ensures c.top.ensures c.turn_of-due.ensures c.keep.ensures.frames in
    record {
      leaves = subst (λ (d : Due). IsLeft c.args.shell c.args.calls.now c.args.frames.now.frames c.args.status.now c.leave.new.calls c.keep.new.frames.frames c.turn_of-due.result.status d) c.in-Over.is l;
      capacity = c.keep.ensures.capacity ∙ sym (ap (λ (s : Stack). s.capacity) c.in-Some.ensures.some) ∙ c.loop-frame.invariant.capacity;
    }

pub returns-in_default-due : goal.returns-in_default-due
returns-in_default-due c =
    let l = step_up c.args.shell c.args.calls.now c.loop-frame.calls c.leave.new.calls c.args.frames.now.frames c.loop-frame.frames.frames c.pop.new.self.frames c.keep.new.frames.frames c.args.status.now c.loop-frame.status c.in-Some.frame c.turn_of-due.result c.top.result.now
    c.loop-frame.invariant.leaves (ap (λ (s : Stack). s.frames) c.in-Some.ensures.some) c.leave.ensures c.top.ensures c.turn_of-due.ensures c.keep.ensures.frames in
    record { rises = (is_part _ _ c.in_default-due.not-Over, l); capacity = c.keep.ensures.capacity ∙ sym (ap (λ (s : Stack). s.capacity) c.in-Some.ensures.some) ∙ c.loop-frame.invariant.capacity }
