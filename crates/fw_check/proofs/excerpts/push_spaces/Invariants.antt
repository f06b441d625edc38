use Rattle.std.proofs.Common.{◌≡◌, ◌++◌, replicate}
use Rattle.fw_check.proofs.excerpts.push_spaces.Given as goal

abbrev pub invariant-loop : goal.invariant-loop
invariant-loop l = l.text.items ≡ l.initial.text.items ++ replicate l.counter 32
