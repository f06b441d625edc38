use Rattle.std.proofs.Common.{sym, subst}
use Rattle.hush_syntax.specs.Scripts.{subtree_at}
use Rattle.hush_run.specs.Resume.{passed_status}
use Rattle.hush_run.specs.Turns.{Turns}
use Rattle.hush_run.specs.declared.frames.Frame.{Frame}
use Rattle.hush_run.proofs.turns.turn_of.Goals as goal

pub returns-in-Started : goal.returns-in-Started
returns-in-Started c = subst (λ (f : Frame). Turns c.args.shell (subtree_at c.args.script.now) f (passed_status c.args.shell f c.args.status) c.started_turn.result) (sym c.in-Started.is) (c.started_turn.ensures (subtree_at c.args.script.now))

pub returns-in-List : goal.returns-in-List
returns-in-List c = subst (λ (f : Frame). Turns c.args.shell (subtree_at c.args.script.now) f (passed_status c.args.shell f c.args.status) c.list_turn.result) (sym c.in-List.is) (c.list_turn.ensures c.args.shell)

pub returns-in-Body : goal.returns-in-Body
returns-in-Body c = subst (λ (f : Frame). Turns c.args.shell (subtree_at c.args.script.now) f (passed_status c.args.shell f c.args.status) c.body_turn.result) (sym c.in-Body.is) (c.body_turn.ensures c.args.shell)

pub returns-in-Bindings : goal.returns-in-Bindings
returns-in-Bindings c = subst (λ (f : Frame). Turns c.args.shell (subtree_at c.args.script.now) f (passed_status c.args.shell f c.args.status) c.bindings_turn.result) (sym c.in-Bindings.is) (c.bindings_turn.ensures c.args.shell)

pub returns-in-Chain : goal.returns-in-Chain
returns-in-Chain c = subst (λ (f : Frame). Turns c.args.shell (subtree_at c.args.script.now) f (passed_status c.args.shell f c.args.status) c.chain_turn.result) (sym c.in-Chain.is) c.chain_turn.ensures

pub returns-in-Branch : goal.returns-in-Branch
returns-in-Branch c = subst (λ (f : Frame). Turns c.args.shell (subtree_at c.args.script.now) f (passed_status c.args.shell f c.args.status) c.branch_turn.result) (sym c.in-Branch.is) c.branch_turn.ensures

pub returns-in-Condition : goal.returns-in-Condition
returns-in-Condition c = subst (λ (f : Frame). Turns c.args.shell (subtree_at c.args.script.now) f (passed_status c.args.shell f c.args.status) c.condition_turn.result) (sym c.in-Condition.is) c.condition_turn.ensures
