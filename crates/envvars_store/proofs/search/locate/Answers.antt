use Rattle.std.proofs.Common.{subst, sym, T, All}
use Rattle.std.specs.FinMap.Entries.{is_sorted}
use Rattle.envimg_core.specs.Environment.{bytes_cmp}
use Rattle.envvars_store.specs.Laying.{LiesIn}
use Rattle.envvars_store.specs.Order.{IsFound, IsGap}
use Rattle.envvars_store.specs.Runs.{pairs}
use Rattle.envvars_store.proofs.FindLemmas.{run_placed, run_sorted, found_position, gap_position}
use Rattle.envvars_store.proofs.search.locate.Goals as goal

pub index_of-requires-clause-lies : goal.index_of-requires-clause-lies
index_of-requires-clause-lies c =
    subst (All (LiesIn c.args.area.now)) (sym c.deref.ensures.value) (run_placed c.args.area.now c.args.runs.now c.in-Some.run' c.index-runs-run.result c.requires c.in-Some.ensures.within c.index-runs-run.is)

pub index_of-requires-clause-sorted : goal.index_of-requires-clause-sorted
index_of-requires-clause-sorted c =
    subst (λ variables. T (is_sorted bytes_cmp (pairs c.args.area.now variables))) (sym c.deref.ensures.value) (run_sorted c.args.area.now c.args.runs.now c.in-Some.run' c.index-runs-run.result c.requires c.in-Some.ensures.within c.index-runs-run.is)

pub returns-in-Ok : goal.returns-in-Ok
returns-in-Ok c =
    found_position c.args.name.now c.args.area.now c.args.runs.now c.in-Some.run' c.in-Ok.index c.index-runs-run.result c.in-Some.ensures c.index-runs-run.is
    (subst (λ variables. IsFound c.args.name.now (pairs c.args.area.now variables) c.in-Ok.index) c.deref.ensures.value c.in-Ok.ensures)

pub returns-in-Err : goal.returns-in-Err
returns-in-Err c =
    gap_position c.args.name.now c.args.area.now c.args.runs.now c.in-Some.run' c.in-Err.index c.index-runs-run.result c.in-Some.ensures c.index-runs-run.is
    (subst (λ variables. IsGap c.args.name.now (pairs c.args.area.now variables) c.in-Err.index) c.deref.ensures.value c.in-Err.ensures)
