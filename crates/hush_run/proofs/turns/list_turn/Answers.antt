use Rattle.std.proofs.Common.{rules, sym, subst}
use Rattle.hush_syntax.specs.Scripts.{subtree_at}
use Rattle.hush_run.specs.Turns.{Turns}
use Rattle.hush_run.specs.declared.turns.Turn.{Turn}
use Rattle.hush_run.specs.declared.frames.Frame.TheVariants as frame
use Rattle.hush_run.proofs.TurnLemmas.{list_goes, list_ends}
use Rattle.hush_run.proofs.turns.list_turn.Goals as goal

pub returns : goal.returns
returns c =
    let h = rw c.in-List.is at c.node.ensures in
    λ shell. subst (λ (t : Turn). Turns shell (subtree_at c.args.script.now) (frame.List c.args.node c.args.next) c.args.status t) (sym c.goes_to.ensures)
    (list_goes shell (subtree_at c.args.script.now) c.args.node c.member.result c.in-List.chains.now h.0 c.args.next c.args.status h.1 h.2 (search (rules, c.if-next-chains.false)) c.member.ensures)

pub returns-then-next-chains : goal.returns-then-next-chains
returns-then-next-chains c =
    let h = rw c.in-List.is at c.node.ensures in
    λ shell. subst (λ (t : Turn). Turns shell (subtree_at c.args.script.now) (frame.List c.args.node c.args.next) c.args.status t) (sym c.over-then-next-chains.ensures)
    (list_ends shell (subtree_at c.args.script.now) c.args.node c.in-List.chains.now h.0 c.args.next c.args.status h.1 h.2 (search (rules, c.if-next-chains.true)))
