use Rattle.std.proofs.Common.{◌≡◌, drop}
use Rattle.envimg_core.specs.Register.{feed}
use Rattle.envimg_core.proofs.checksum.crc32_bitwise.Given as goal

abbrev pub invariant-loop-byte : goal.invariant-loop-byte
invariant-loop-byte l = feed l.register (drop l.byte-index l.bytes) ≡ feed 0xFFFFFFFF l.bytes
