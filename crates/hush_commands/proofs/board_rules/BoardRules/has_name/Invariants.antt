use Rattle.std.proofs.Common.{◌≡◌, length}
use Rattle.hush_commands.specs.CommandNames.{is_ruled}
use Rattle.hush_commands.proofs.board_rules.BoardRules.has_name.Given as goal

abbrev pub invariant-loop-rule : goal.invariant-loop-rule
invariant-loop-rule l = is_ruled l.rules l.name ≡ is_ruled l.self l.name

abbrev pub decreases-loop-rule : goal.decreases-loop-rule
decreases-loop-rule l = length l.rules
