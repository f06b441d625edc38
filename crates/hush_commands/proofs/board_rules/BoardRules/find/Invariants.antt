use Rattle.std.proofs.Common.{◌≡◌, ◌∷◌, drop, length}
use Rattle.hush_commands.specs.Hardware.{ruled}
use Rattle.hush_commands.proofs.board_rules.BoardRules.find.Given as goal

abbrev pub invariant-loop-rule : goal.invariant-loop-rule
invariant-loop-rule l = ruled l.rules (l.called ∷ drop 1 l.fields) ≡ ruled l.self (l.called ∷ drop 1 l.fields)

abbrev pub decreases-loop-rule : goal.decreases-loop-rule
decreases-loop-rule l = length l.rules
