use Rattle.std.proofs.Common.{◌≡◌, drop}
use Rattle.envimg_core.specs.Register.{feed}
use Rattle.envimg_core.proofs.checksum.feed_bytes.Given as goal

abbrev pub invariant-loop-byte : goal.invariant-loop-byte
invariant-loop-byte l = feed l.turned (drop l.byte-index l.bytes) ≡ feed l.register l.bytes
