use Rattle.std.proofs.Common.{◌-◌, length}
use Rattle.hush_syntax.specs.Scripts.{subtree_at}
use Rattle.hush_run.proofs.TurnLemmas.{Passed}
use Rattle.hush_run.proofs.turns.chain_turn.Given as goal

abbrev pub invariant-loop-at : goal.invariant-loop-at
invariant-loop-at l = Passed l.shell (subtree_at l.script) l.node l.fn.next l.at l.status

abbrev pub decreases-loop-at : goal.decreases-loop-at
decreases-loop-at l = length l.links - l.at
