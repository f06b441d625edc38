use Rattle.std.proofs.Common.{Option, None, List, ℕ, subst, sym}
use Rattle.hush_syntax.specs.Scripts.{tree_of}
use Rattle.hush_run.specs.Advances.{Ran}
use Rattle.hush_run.specs.Runs.{reason_of}
use Rattle.hush_run.specs.Steps.{state_of, rules_of}
use Rattle.hush_run.proofs.AdvanceLemmas.{none_counted, same_ends}
use Rattle.hush_run.proofs.outcome.run_script.Goals as goal

pub returns-in_default : goal.returns-in_default
returns-in_default c = none_counted (rules_of c.args.given.now) (tree_of c.args.script.now) (state_of c.args.session.now c.args.progress.now) None c.requires.steps

pub returns-in_default-new : goal.returns-in_default-new
returns-in_default-new c = none_counted (rules_of c.args.given.now) (tree_of c.args.script.now) (state_of c.args.session.now c.args.progress.now) None c.requires.steps

pub returns-in-Err : goal.returns-in-Err
returns-in-Err c =
    let r = rules_of c.args.given.now in
    let tree = tree_of c.args.script.now in
    let s = state_of c.args.session.now c.args.progress.now in
    let now = state_of c.loop-next.session c.loop-next.progress in
    let t = state_of c.advance.new.session c.advance.new.progress in
    subst (λ (place : Option (List ℕ)). Ran r tree s t place (reason_of c.in-Err.ending)) (sym c.running_name.ensures)
    (same_ends r tree s now t c.loop-next.calls c.advance.new.calls c.loop-next.frames.frames c.advance.new.frames.frames c.advance.new.frames.capacity c.loop-next.due c.in-Err.ending c.loop-next.invariant.steps c.loop-next.invariant.same c.in-Err.ensures)
