use Rattle.std.proofs.Common.{◌≡◌, length}
use Rattle.hush_commands.specs.CommandNames.{with_rules}
use Rattle.hush_commands.proofs.board_rules.BoardRules.with_names.Given as goal

abbrev pub invariant-loop-rule : goal.invariant-loop-rule
invariant-loop-rule l = with_rules l.word l.so_far l.rules ≡ with_rules l.word l.fn.found l.self

abbrev pub decreases-loop-rule : goal.decreases-loop-rule
decreases-loop-rule l = length l.rules
