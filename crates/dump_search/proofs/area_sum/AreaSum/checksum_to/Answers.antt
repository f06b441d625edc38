use Rattle.std.proofs.Common.{ℕ, List, arith, sym, subst, drop, take}
use Rattle.envimg_core.specs.Digest.{HasTaken}
use Rattle.envimg_core.specs.Geometry.{head}
use Rattle.dump_search.proofs.AreaLemmas.{area_goes_on, are_dropped, are_taken}
use Rattle.dump_search.proofs.area_sum.AreaSum.checksum_to.Goals as goal

has_taken : (c : goal.After-finalize) → HasTaken c.update.new.self (drop (head c.args.layout) (take c.args.end c.args.bytes.now))
has_taken c =
    let begun = c.before-begin.ensures.sum c.args.bytes.now c.requires.sum in
    subst (λ (xs : List ℕ). HasTaken c.update.new.self xs)
    (sym (area_goes_on (head c.args.layout) c.before-begin.result.end c.args.end c.args.bytes.now begun.1 c.before-begin.ensures.end))
    (c.update.ensures (drop (head c.args.layout) (take c.before-begin.result.end c.args.bytes.now)) begun.0)

pub returns-clause-checksum : goal.returns-clause-checksum
returns-clause-checksum c =
    c.finalize.ensures (drop (head c.args.layout) (take c.args.end c.args.bytes.now))
    (are_dropped (head c.args.layout) (take c.args.end c.args.bytes.now)
    (are_taken c.args.end c.args.bytes.now (λ i. omega (arith, c.type_inv.bytes i))))
    (has_taken c)

pub returns-clause-sum : goal.returns-clause-sum
returns-clause-sum c = (has_taken c, c.requires.head)
