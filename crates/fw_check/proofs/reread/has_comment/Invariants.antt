use Rattle.std.proofs.Common.{◌≡◌, drop, true}
use Rattle.fw_check.specs.Knowing.{has_comment}
use Rattle.fw_check.proofs.reread.has_comment.Given as goal

abbrev pub invariant-loop-byte : goal.invariant-loop-byte
invariant-loop-byte l = has_comment l.begins (drop l.byte-index l.value) ≡ has_comment true l.value
