use Rattle.std.proofs.Common.{eqb, take, replicate, sym, subst, ◌%◌, ◌^◌, w8}
use Rattle.std.specs.Simd.Lanes.{mask_l}
use Rattle.std.proofs.lemmas.Simd.{tops_compared}
use Rattle.envvars_store.proofs.SeekLemmas.{matched, IsMatch}
use Rattle.envvars_store.proofs.scan.matching.Goals as goal

pub returns : goal.returns
returns c k =
    subst (λ ms. IsMatch c.args.text.now c.args.byte (mask_l ms % 2 ^ 64) k) (sym (tops_compared w8 eqb (take 32 c.args.text.now) (replicate 32 c.args.byte))) (matched c.args.text.now c.args.byte k c.requires)
