use Rattle.std.proofs.Common.{◌≡◌, ◌∷◌, codes, length, take}
use Rattle.hush_commands.specs.Hardware.{ruled}
use Rattle.hush_commands.proofs.board_rules.BoardRules.find_file.Given as goal

abbrev pub invariant-loop-rule : goal.invariant-loop-rule
invariant-loop-rule l =
    (l.file ≡ take 3 l.words)
    × (ruled l.rules (codes "test" ∷ codes "-e" ∷ take 3 l.words) ≡ ruled l.self (codes "test" ∷ codes "-e" ∷ take 3 l.words))

abbrev pub decreases-loop-rule : goal.decreases-loop-rule
decreases-loop-rule l = length l.rules
