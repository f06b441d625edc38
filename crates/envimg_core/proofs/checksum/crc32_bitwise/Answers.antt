use Rattle.std.proofs.Common.{arith, sym, ◌∙◌, ap, drop, bit_xor, ◌+◌}
use Rattle.envimg_core.specs.Register.{feed, steps}
use Rattle.envimg_core.proofs.ChecksumLemmas.{checksum-feed}
use Rattle.envimg_core.proofs.TableLemmas.{feed_next, feed_done}
use Rattle.envimg_core.proofs.checksum.crc32_bitwise.Goals as goal

pub loop-byte-preserved : goal.loop-byte-preserved
loop-byte-preserved c =
    ap (λ r. feed r (drop (c.loop-byte.byte-index + 1) c.args.bytes.now))
    (c.feed_bits-register.ensures ∙ ap (λ b. steps 8 (bit_xor c.loop-byte.register b)) c.from.ensures)
    ∙ sym (feed_next c.loop-byte.register c.args.bytes.now c.loop-byte.byte-index (omega arith))
    ∙ c.loop-byte.invariant

pub returns : goal.returns
returns c =
    ap (λ r. bit_xor r 0xFFFFFFFF) (sym (feed_done c.loop-byte.register c.args.bytes.now c.loop-byte.byte-index (omega arith)) ∙ c.loop-byte.invariant)
    ∙ sym (checksum-feed c.args.bytes.now (λ i. omega (arith, c.type_inv.bytes i)))
