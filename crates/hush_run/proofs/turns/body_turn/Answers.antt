use Rattle.std.proofs.Common.{sym, subst}
use Rattle.hush_syntax.specs.Scripts.{subtree_at}
use Rattle.hush_run.specs.Turns.{Turns}
use Rattle.hush_run.specs.declared.turns.Turn.{Turn}
use Rattle.hush_run.specs.declared.frames.Frame.TheVariants as frame
use Rattle.hush_run.proofs.TurnLemmas.{while_again, until_again}
use Rattle.hush_run.proofs.turns.body_turn.Goals as goal

pub returns-in-While : goal.returns-in-While
returns-in-While c =
    let h = rw c.in-While.is at c.node.ensures in
    λ shell. subst (λ (t : Turn). Turns shell (subtree_at c.args.script.now) (frame.Body c.args.node) c.args.status t) (sym c.goes_to.ensures) (while_again shell (subtree_at c.args.script.now) c.args.node c.in-While.condition h.0 h.1 c.args.status h.2 h.3)

pub returns-in-Until : goal.returns-in-Until
returns-in-Until c =
    let h = rw c.in-Until.is at c.node.ensures in
    λ shell. subst (λ (t : Turn). Turns shell (subtree_at c.args.script.now) (frame.Body c.args.node) c.args.status t) (sym c.goes_to-in-Until.ensures) (until_again shell (subtree_at c.args.script.now) c.args.node c.in-Until.condition h.0 h.1 c.args.status h.2 h.3)
