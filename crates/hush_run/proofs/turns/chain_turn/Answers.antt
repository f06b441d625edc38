use Rattle.std.proofs.Common.{rules, sym, subst, ap, ◌∙◌}
use Rattle.hush_run.specs.Meaning.{leaves_chain}
use Rattle.hush_run.specs.Turns.{Turns}
use Rattle.hush_syntax.specs.Scripts.{subtree_at}
use Rattle.hush_run.specs.declared.turns.Turn.{Turn}
use Rattle.hush_run.specs.declared.frames.Frame.TheVariants as frame
use Rattle.hush_run.proofs.TurnLemmas.{chain_goes, chain_skips, chain_leaves, chain_ends}
use Rattle.hush_run.proofs.turns.chain_turn.Goals as goal

pub returns-then-is_joined : goal.returns-then-is_joined
returns-then-is_joined c =
    let h = rw c.in-Chain.is at c.node.ensures in
    subst (λ (t : Turn). Turns c.args.shell (subtree_at c.args.script.now) (frame.Chain c.args.node c.args.next) c.args.status t) (sym c.goes_to.ensures)
    (chain_goes c.args.shell (subtree_at c.args.script.now) c.args.node c.in-Chain.links.now h.0 c.args.next c.loop-at.at c.args.status c.member-link.result h.1 h.2 (search (rules, c.loop-at-test.true)) c.member-link.ensures (sym c.if-is_joined.ensures) c.loop-at.invariant)

pub returns-then-leaves_chain : goal.returns-then-leaves_chain
returns-then-leaves_chain c =
    let h = rw c.in-Chain.is at c.node.ensures in
    subst (λ (t : Turn). Turns c.args.shell (subtree_at c.args.script.now) (frame.Chain c.args.node c.args.next) c.args.status t) (sym c.over-then-leaves_chain.ensures)
    (chain_leaves c.args.shell (subtree_at c.args.script.now) c.args.node c.in-Chain.links.now h.0 c.args.next c.loop-at.at c.args.status c.member-link.result h.1 h.2 (search (rules, c.loop-at-test.true)) c.member-link.ensures (sym c.if-is_joined.ensures) (sym c.if-leaves_chain.ensures) c.loop-at.invariant)

pub loop-at-preserved : goal.loop-at-preserved
loop-at-preserved c =
    let h = rw c.in-Chain.is at c.node.ensures in λ rules same begin s.
    c.loop-at.invariant rules same begin s
    ∙ chain_skips rules begin (subtree_at c.args.script.now) c.args.node c.in-Chain.links.now h.0 c.loop-at.at c.args.status c.member-link.result s h.1 h.2 (search (rules, c.loop-at-test.true)) c.member-link.ensures (sym c.if-is_joined.ensures) (ap leaves_chain same ∙ sym c.if-leaves_chain.ensures)

pub returns : goal.returns
returns c =
    let h = rw c.in-Chain.is at c.node.ensures in
    subst (λ (t : Turn). Turns c.args.shell (subtree_at c.args.script.now) (frame.Chain c.args.node c.args.next) c.args.status t) (sym c.over-2.ensures)
    (chain_ends c.args.shell (subtree_at c.args.script.now) c.args.node c.in-Chain.links.now h.0 c.args.next c.loop-at.at c.args.status h.1 h.2 (search (rules, c.loop-at-test.false)) c.loop-at.invariant)
