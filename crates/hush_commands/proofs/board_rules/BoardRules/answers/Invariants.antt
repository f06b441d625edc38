use Rattle.std.proofs.Common.{◌≡◌, length}
use Rattle.hush_commands.specs.CommandNames.{is_answered}
use Rattle.hush_commands.proofs.board_rules.BoardRules.answers.Given as goal

abbrev pub invariant-loop-rule : goal.invariant-loop-rule
invariant-loop-rule l = is_answered l.rules l.name ≡ is_answered l.self l.name

abbrev pub decreases-loop-rule : goal.decreases-loop-rule
decreases-loop-rule l = length l.rules
