use Rattle.std.proofs.Common.{arith, sym, ◌∙◌, ap, bit_xor}
use Rattle.envimg_core.proofs.ChecksumLemmas.{checksum-feed}
use Rattle.envimg_core.proofs.checksum.crc32.Goals as goal

pub returns : goal.returns
returns c =
    ap (λ r. bit_xor r 0xFFFFFFFF) c.feed_all.ensures
    ∙ sym (checksum-feed c.args.bytes.now (λ i. omega (arith, c.type_inv.bytes i)))
