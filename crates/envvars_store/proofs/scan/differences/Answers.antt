use Rattle.std.proofs.Common.{eqb, not, take, sym, subst, ◌%◌, ◌^◌, w8}
use Rattle.std.specs.Simd.Lanes.{mask_l}
use Rattle.std.proofs.lemmas.Simd.{tops_compared}
use Rattle.envvars_store.proofs.SeekLemmas.{differ, Differ}
use Rattle.envvars_store.proofs.scan.differences.Goals as goal

pub returns-clause-apart : goal.returns-clause-apart
returns-clause-apart c k =
    (subst (λ ms. Differ c.args.text.now c.args.other.now (mask_l ms % 2 ^ 64) k) (sym (tops_compared w8 (λ x y. not (eqb x y)) (take 32 c.args.text.now) (take 32 c.args.other.now))) (differ c.args.text.now c.args.other.now k c.requires.text c.requires.other)).0

pub returns-clause-same : goal.returns-clause-same
returns-clause-same c k =
    (subst (λ ms. Differ c.args.text.now c.args.other.now (mask_l ms % 2 ^ 64) k) (sym (tops_compared w8 (λ x y. not (eqb x y)) (take 32 c.args.text.now) (take 32 c.args.other.now))) (differ c.args.text.now c.args.other.now k c.requires.text c.requires.other)).1
