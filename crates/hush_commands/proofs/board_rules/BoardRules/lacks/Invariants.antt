use Rattle.std.proofs.Common.{◌≡◌, length}
use Rattle.hush_commands.specs.CommandNames.{lacks}
use Rattle.hush_commands.proofs.board_rules.BoardRules.lacks.Given as goal

abbrev pub invariant-loop-rule : goal.invariant-loop-rule
invariant-loop-rule l = lacks l.rules l.name ≡ lacks l.self l.name

abbrev pub decreases-loop-rule : goal.decreases-loop-rule
decreases-loop-rule l = length l.rules
