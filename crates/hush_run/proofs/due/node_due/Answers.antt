use Rattle.hush_run.specs.Steps.{state_of, rules_of}
use Rattle.hush_run.proofs.AdvanceLemmas.{stack_below, node_advances, node_ends, exit_advances}
use Rattle.hush_run.proofs.due.node_due.Goals as goal

pub leave_text-requires-clause-stack : goal.leave_text-requires-clause-stack
leave_text-requires-clause-stack c =
    stack_below (rules_of c.args.given.now) c.args.calls.now c.top-script.result.now c.args.frames.now.frames c.descend-step.new.frames.frames c.args.frames.now.capacity c.descend-step.new.frames.capacity c.args.node c.descend-step.result (state_of c.args.session.now c.args.progress.now) (state_of c.node_step.new.session c.node_step.new.progress)
    c.top-script.ensures c.requires.ready c.requires.steps c.descend-step.ensures.capacity c.descend-step.ensures.descends.1

pub returns-in-Ok-Goes : goal.returns-in-Ok-Goes
returns-in-Ok-Goes c =
    node_advances (rules_of c.args.given.now) c.args.calls.now c.top-script.result.now c.args.frames.now.frames c.descend-step.new.frames.frames c.args.frames.now.capacity c.descend-step.new.frames.capacity c.args.node c.descend-step.result (state_of c.args.session.now c.args.progress.now) (state_of c.node_step.new.session c.node_step.new.progress)
    c.top-script.ensures c.requires.ready c.requires.steps c.descend-step.ensures.capacity c.descend-step.ensures.descends.1 c.in-Ok-Goes.due (rw c.in-Ok-Goes.field-0-is at c.in-Ok-Goes.ensures.step) (rw c.in-Ok-Goes.field-0-is at c.in-Ok-Goes.ensures.fits)

pub returns-in-Ok-Leaves : goal.returns-in-Ok-Leaves
returns-in-Ok-Leaves c =
    exit_advances (rules_of c.args.given.now) c.args.calls.now c.top-script.result.now c.args.frames.now.frames c.descend-step.new.frames.frames c.args.frames.now.capacity c.descend-step.new.frames.capacity c.args.node c.descend-step.result (state_of c.args.session.now c.args.progress.now) (state_of c.node_step.new.session c.node_step.new.progress)
    c.top-script.ensures c.requires.ready c.requires.steps c.descend-step.ensures.capacity c.descend-step.ensures.descends.1
    c.in-Ok-Leaves.own c.leave_text.new.status c.leave_text.new.frames.capacity c.leave_text.new.calls c.leave_text.new.frames.frames c.leave_text.result (rw c.in-Ok-Leaves.field-0-is at c.in-Ok-Leaves.ensures.step) c.leave_text.ensures.leaves c.leave_text.ensures.capacity

pub returns-in-Err : goal.returns-in-Err
returns-in-Err c =
    node_ends (rules_of c.args.given.now) c.args.calls.now c.top-script.result.now c.args.frames.now.frames c.descend-step.new.frames.frames c.args.frames.now.capacity c.descend-step.new.frames.capacity c.args.node c.descend-step.result (state_of c.args.session.now c.args.progress.now) (state_of c.node_step.new.session c.node_step.new.progress)
    c.top-script.ensures c.requires.ready c.requires.steps c.descend-step.ensures.capacity c.descend-step.ensures.descends.1 c.in-Err.ending c.in-Err.ensures.step
