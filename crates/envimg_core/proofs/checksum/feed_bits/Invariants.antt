use Rattle.std.proofs.Common.{◌≡◌, ◌-◌}
use Rattle.envimg_core.specs.Register.{steps}
use Rattle.envimg_core.proofs.checksum.feed_bits.Given as goal

abbrev pub invariant-loop : goal.invariant-loop
invariant-loop l = steps (8 - l.counter) l.turned ≡ steps 8 l.register
