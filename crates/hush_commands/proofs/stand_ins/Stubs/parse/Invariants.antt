use Rattle.std.proofs.Common.{◌≡◌}
use Rattle.hush_commands.specs.Stubs.{stand_ins_of, with_lines}
use Rattle.hush_commands.proofs.stand_ins.Stubs.parse.Given as goal

abbrev pub invariant-loop-number : goal.invariant-loop-number
invariant-loop-number l = stand_ins_of l.text ≡ with_lines l.stubs l.number-iterator
