use Rattle.std.proofs.Common.{sym, ◌∙◌, ap, bit_xor}
use Rattle.envimg_core.proofs.ChecksumLemmas.{checksum-feed}
use Rattle.envimg_core.proofs.checksum.Digest.finalize.Goals as goal

pub returns : goal.returns
returns c taken are has = ap (λ r. bit_xor r 0xFFFFFFFF) has ∙ sym (checksum-feed taken are)
