use Rattle.std.proofs.Common.{◌+◌, ◌-◌, ◌/◌, ◌<◌, length, arith}
use Rattle.envvars_store.specs.Runs.{pairs}
use Rattle.envvars_store.proofs.FindLemmas.{passed, reached, starts_after, compared_at, within_pairs}
use Rattle.envvars_store.proofs.search.index_of.Goals as goal

pub halving-preserved-in-Less : goal.halving-preserved-in-Less
halving-preserved-in-Less c =
    let i = c.halving.low + (c.halving.high - c.halving.low) / 2 in
    let w : i < length c.args.variables.now = omega arith in
    record {
      ordered = omega arith;
      within = omega arith;
      before = c.halving.invariant.before;
      after = starts_after c.args.name.now (pairs c.args.area.now c.args.variables.now) i (within_pairs c.args.area.now c.args.variables.now i w)
          (compared_at c.args.name.now _ c.args.area.now c.args.variables.now i _ _ _ w c.index-variables-middle.is c.name.ensures c.cmp.ensures c.in-Less.is);
    }

pub returns-in-Equal : goal.returns-in-Equal
returns-in-Equal c =
    let i = c.halving.low + (c.halving.high - c.halving.low) / 2 in
    let w : i < length c.args.variables.now = omega arith in
    reached c.args.name.now (pairs c.args.area.now c.args.variables.now) i c.requires.sorted (within_pairs c.args.area.now c.args.variables.now i w)
    (compared_at c.args.name.now _ c.args.area.now c.args.variables.now i _ _ _ w c.index-variables-middle.is c.name.ensures c.cmp.ensures c.in-Equal.is)

pub halving-preserved : goal.halving-preserved
halving-preserved c =
    let i = c.halving.low + (c.halving.high - c.halving.low) / 2 in
    let w : i < length c.args.variables.now = omega arith in
    record {
      ordered = omega arith;
      within = c.halving.invariant.within;
      before = passed c.args.name.now (pairs c.args.area.now c.args.variables.now) i c.requires.sorted (within_pairs c.args.area.now c.args.variables.now i w)
          (compared_at c.args.name.now _ c.args.area.now c.args.variables.now i _ _ _ w c.index-variables-middle.is c.name.ensures c.cmp.ensures c.in-Greater.is);
      after = c.halving.invariant.after;
    }
