use Rattle.std.proofs.Common.{arith, ap, ◌∙◌, get_or, bit_xor, ◌/◌}
use Rattle.envimg_core.specs.Register.{advance}
use Rattle.envimg_core.proofs.TableLemmas.{byte_fed}
use Rattle.envimg_core.proofs.checksum.feed_byte.Goals as goal

pub returns : goal.returns
returns c = ap (λ m. bit_xor m (c.args.register / 256)) (c.advanced.ensures ∙ ap (λ rs. advance 1 (bit_xor (get_or rs 0 0) c.args.byte)) c.to_le_bytes.ensures) ∙ byte_fed c.args.register c.args.byte (omega (arith, c.ranges.byte))
