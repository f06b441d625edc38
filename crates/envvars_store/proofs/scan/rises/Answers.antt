use Rattle.std.proofs.Common.{arith}
use Rattle.std.proofs.lemmas.Bool.{ltb-true}
use Rattle.envvars_store.proofs.SeekLemmas.{near_longer, near_byte}
use Rattle.envvars_store.proofs.scan.rises.Goals as goal

pub returns-then-last-same : goal.returns-then-last-same
returns-then-last-same c = λ h.
    let at = c.differences-apart.ensures.apart c.lowest-same.result c.lowest-same.ensures.set in
    let short = at.0 in
    near_longer c.args.text.now c.args.other.now c.lowest-same.result c.args.name c.args.last short c.requires.text c.requires.name c.requires.last c.requires.other
    (λ k l. c.differences-apart.ensures.same k (omega arith) (c.lowest-same.ensures.below k l)) (omega arith) (ltb-true _ _ h)

pub returns : goal.returns
returns c = λ h.
    let at = c.differences-apart.ensures.apart c.lowest-same.result c.lowest-same.ensures.set in
    let short = at.0 in
    near_byte c.args.text.now c.args.other.now c.lowest-same.result c.args.name c.args.last short c.requires.text c.requires.name c.requires.last c.requires.other
    (λ k l. c.differences-apart.ensures.same k (omega arith) (c.lowest-same.ensures.below k l)) (omega arith) (omega arith) (ltb-true _ _ h)
