use Rattle.std.proofs.Common.{◌≡◌, ◌++◌, take}
use Rattle.hush_commands.proofs.board_rules.BoardRules.behind.Given as goal

abbrev pub invariant-loop-rule : goal.invariant-loop-rule
invariant-loop-rule l = l.rules.items ≡ l.fn.first.items ++ take l.rule-index l.rule-items
