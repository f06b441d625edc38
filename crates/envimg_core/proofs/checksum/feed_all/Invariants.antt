use Rattle.std.proofs.Common.{◌≡◌, length}
use Rattle.envimg_core.specs.Register.{feed}
use Rattle.envimg_core.proofs.checksum.feed_all.Given as goal

abbrev pub invariant-loop-rest : goal.invariant-loop-rest
invariant-loop-rest l = feed l.turned l.rest ≡ feed l.register l.bytes

abbrev pub decreases-loop-rest : goal.decreases-loop-rest
decreases-loop-rest l = length l.rest
