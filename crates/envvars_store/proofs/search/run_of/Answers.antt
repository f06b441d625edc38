use Rattle.std.proofs.Common.{◌+◌, ◌-◌, ◌/◌, ◌<◌, length, arith}
use Rattle.envvars_store.proofs.FindLemmas.{compared, run_placed, run_filled, variable_placed, run_equal, run_greater, run_ends}
use Rattle.envvars_store.proofs.RunLemmas.{long}
use Rattle.envvars_store.proofs.search.run_of.Goals as goal

pub name-requires : goal.name-requires
name-requires c =
    let i = c.halving.low + (c.halving.high - c.halving.low) / 2 in
    let w : i < length c.args.runs.now = omega arith in
    variable_placed c.args.area.now c.index-runs-middle.result.items 0 c.index.result.now
    (run_placed c.args.area.now c.args.runs.now i c.index-runs-middle.result c.requires w c.index-runs-middle.is)
    (omega (arith, run_filled c.args.area.now c.args.runs.now i c.index-runs-middle.result c.requires w c.index-runs-middle.is, long c.index-runs-middle.result)) c.index.ensures

pub halving-preserved-in-Equal : goal.halving-preserved-in-Equal
halving-preserved-in-Equal c =
    let i = c.halving.low + (c.halving.high - c.halving.low) / 2 in
    let w : i < length c.args.runs.now = omega arith in
    record {
      ordered = omega arith;
      within = c.halving.invariant.within;
      before = run_equal c.args.name.now c.args.area.now c.args.runs.now i c.index-runs-middle.result c.index.result.now c.requires w c.index-runs-middle.is c.index.ensures
          (compared c.args.name.now _ c.args.area.now c.index.result.now _ _ c.name.ensures c.cmp.ensures c.in-Equal.is);
      after = c.halving.invariant.after;
    }

pub halving-preserved : goal.halving-preserved
halving-preserved c =
    let i = c.halving.low + (c.halving.high - c.halving.low) / 2 in
    let w : i < length c.args.runs.now = omega arith in
    record {
      ordered = omega arith;
      within = c.halving.invariant.within;
      before = run_greater c.args.name.now c.args.area.now c.args.runs.now i c.index-runs-middle.result c.index.result.now c.requires w c.index-runs-middle.is c.index.ensures
          (compared c.args.name.now _ c.args.area.now c.index.result.now _ _ c.name.ensures c.cmp.ensures c.in-Greater.is);
      after = c.halving.invariant.after;
    }

pub returns-else-low-eq0 : goal.returns-else-low-eq0
returns-else-low-eq0 c =
    run_ends c.args.name.now c.args.area.now c.args.runs.now c.halving.low c.halving.high (omega arith) (omega arith) c.halving.invariant.within c.halving.invariant.before c.halving.invariant.after
