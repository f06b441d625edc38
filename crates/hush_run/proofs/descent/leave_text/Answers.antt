use Rattle.std.proofs.Common.{◌≡◌, ◌∷◌, Err, ap, sym, subst, ◌∙◌, arith, refl}
use Rattle.hush_run.specs.declared.ending.Ending.TheVariants as ending
use Rattle.hush_run.specs.Rises.{LeavesText}
use Rattle.hush_run.specs.Stacks.{Stack}
use Rattle.hush_run.proofs.LeaveLemmas.{past_list, past_other, out_of_text, out_of_script}
use Rattle.hush_run.proofs.descent.leave_text.Goals as goal

pub loop-frame-init : goal.loop-frame-init
loop-frame-init c = record { way = (c.requires.stack, c.requires.some, omega arith, λ rules s. refl); capacity = refl }

pub loop-frame-preserved-in-List : goal.loop-frame-preserved-in-List
loop-frame-preserved-in-List c =
    let popped : c.loop-frame.frames.frames ≡ c.in-Some.frame ∷ c.pop.new.self.frames = ap (λ (s : Stack). s.frames) c.in-Some.ensures.some in
    record { way = past_list c.args.calls.now c.loop-frame.calls c.leave.new.calls c.args.frames.now.frames c.loop-frame.frames.frames c.pop.new.self.frames c.args.own c.args.status.now c.loop-frame.inner c.loop-frame.status c.in-Some.frame c.passed_of.result c.loop-frame.invariant.way popped c.leave.ensures c.passed_of.ensures c.in-List.is; capacity = sym (ap (λ (s : Stack). s.capacity) c.in-Some.ensures.some) ∙ c.loop-frame.invariant.capacity }

pub loop-frame-preserved : goal.loop-frame-preserved
loop-frame-preserved c =
    let popped : c.loop-frame.frames.frames ≡ c.in-Some.frame ∷ c.pop.new.self.frames = ap (λ (s : Stack). s.frames) c.in-Some.ensures.some in
    record { way = past_other c.args.calls.now c.loop-frame.calls c.leave.new.calls c.args.frames.now.frames c.loop-frame.frames.frames c.pop.new.self.frames c.args.own c.args.status.now c.loop-frame.inner c.loop-frame.status c.in-Some.frame c.passed_of.result c.loop-frame.invariant.way popped c.leave.ensures c.passed_of.ensures c.in-Other.is; capacity = sym (ap (λ (s : Stack). s.capacity) c.in-Some.ensures.some) ∙ c.loop-frame.invariant.capacity }

pub returns-in-Text-clause-leaves : goal.returns-in-Text-clause-leaves
returns-in-Text-clause-leaves c =
    let popped : c.loop-frame.frames.frames ≡ c.in-Some.frame ∷ c.pop.new.self.frames = ap (λ (s : Stack). s.frames) c.in-Some.ensures.some in
    out_of_text c.args.calls.now c.loop-frame.calls c.leave.new.calls c.args.frames.now.frames c.loop-frame.frames.frames c.pop.new.self.frames c.args.own c.args.status.now c.loop-frame.inner c.loop-frame.status c.in-Some.frame c.passed_of.result c.loop-frame.invariant.way popped c.leave.ensures c.passed_of.ensures c.in-Text.names c.due_after.result c.in-Text.is c.due_after.ensures.due c.due_after.ensures.same

pub returns-clause-leaves : goal.returns-clause-leaves
returns-clause-leaves c =
    subst (λ (s : Stack). LeavesText c.args.calls.now c.args.frames.now.frames c.args.own c.args.status.now c.loop-frame.calls s.frames c.loop-frame.status (Err ending.Exited)) (sym c.in_default.ensures.none.1)
    (out_of_script c.args.calls.now c.loop-frame.calls c.args.frames.now.frames c.loop-frame.frames.frames c.args.own c.args.status.now c.loop-frame.inner c.loop-frame.status c.loop-frame.invariant.way c.in_default.ensures.none.0)
