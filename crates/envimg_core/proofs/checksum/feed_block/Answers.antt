use Rattle.std.proofs.Common.{arith, ap, ◌∙◌, bit_xor}
use Rattle.envimg_core.specs.Register.{mixed}
use Rattle.envimg_core.proofs.TableLemmas.{block_fed, gets}
use Rattle.envimg_core.proofs.checksum.feed_block.Goals as goal

pub returns : goal.returns
returns c =
    let xs = c.args.block.now in
    ap (λ m. bit_xor m c.mixed_four.result) c.mixed_four-back.ensures
    ∙ ap (bit_xor (mixed 0 (gets xs 4 4))) c.mixed_four.ensures
    ∙ block_fed c.args.register c.read_u32.result xs c.to_le_bytes.result (omega (arith, c.ranges.register)) (λ j. omega (arith, c.type_inv.block j)) c.requires c.read_u32.ensures c.to_le_bytes.ensures
