use Rattle.std.proofs.Common.{subst, sym}
use Rattle.hush_run.specs.Steps.{state_of, rules_of}
use Rattle.hush_run.specs.Advances.{Advances}
use Rattle.hush_run.specs.declared.due.Due.{Due}
use Rattle.hush_run.proofs.AdvanceLemmas.{rise_then}
use Rattle.hush_run.proofs.due.advance.Goals as goal

pub returns-in-Over : goal.returns-in-Over
returns-in-Over c =
    subst (λ (d : Due). Advances (rules_of c.args.given.now) c.args.calls.now c.args.frames.now.frames d (state_of c.args.session.now c.args.progress.now) c.step_due.new.calls c.step_due.new.frames.frames c.step_due.new.frames.capacity (state_of c.step_due.new.session c.step_due.new.progress) c.step_due.result) (sym c.in-Over.is)
    (rise_then (rules_of c.args.given.now) c.args.calls.now c.rise_up-due.new.calls c.step_due.new.calls c.args.frames.now.frames c.rise_up-due.new.frames.frames c.step_due.new.frames.frames c.rise_up-due.new.status c.step_due.new.frames.capacity c.rise_up-due.result (state_of c.args.session.now c.args.progress.now) (state_of c.step_due.new.session c.step_due.new.progress) c.step_due.result c.requires.steps c.rise_up-due.ensures.rises.1 c.step_due.ensures)
