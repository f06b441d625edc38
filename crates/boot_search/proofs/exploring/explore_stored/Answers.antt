use Rattle.std.proofs.Common.{arith, ◌≡◌, List, subst, sym, Some, map}
use Rattle.std.specs.Prelude.{slice_get, All}
use Rattle.boot_search.specs.declared.exploring.Stored.{Stored}
use Rattle.boot_search.specs.declared.endings.Ending.{Ending}
use Rattle.boot_search.specs.Outcomes.{Given, Outcome}
use Rattle.boot_search.specs.Endings.{IsEnding, AreAllEndings, ending_view}
use Rattle.boot_search.specs.Reports.{bytes_of}
use Rattle.boot_search.proofs.ReportLemmas.{grows_state}
use Rattle.boot_search.proofs.PlaceLemmas.{one_more_steps, one_more_grows, one_more_listed, all_listed}
use Rattle.boot_search.proofs.exploring.explore_stored.Goals as goal

pub loop-ending-preserved : goal.loop-ending-preserved
loop-ending-preserved g c =
    let runs = g.B.Board.runs c.args.board.now in
    let state = c.bytes_at.result.now in
    let found = c.deref-ending-items.result.now in
    let at : slice_get (map bytes_of c.args.stored.now.items) c.args.from ≡ Some state =
    subst (λ (t : List Stored). slice_get (map bytes_of t) c.args.from ≡ Some state) c.deref.ensures.value c.bytes_at.ensures in
    let sound = subst (λ (t : List Ending). All (IsEnding (runs state)) (map ending_view t)) (sym c.deref-ending-items.ensures.value)
    (subst (λ (run : List Given → Outcome). All (IsEnding run) (map ending_view c.in_ok-endings.endings.found.items)) c.in_ok-powered.ensures c.in_ok-endings.ensures.sound) in
    let i = c.loop-ending.ending-index in
    let x = c.ending-item.result in
    let l = c.loop-ending-test.true in
    record {
      places = c.in_ok-add_way.ensures.places;
      steps = one_more_steps runs c.args.from found i x state l c.ending-item.is at c.loop-ending.invariant.grows c.in_ok-add_way.ensures.added sound c.loop-ending.invariant.steps;
      grows = one_more_grows runs c.args.from found i x state l c.ending-item.is at c.loop-ending.invariant.grows c.in_ok-add_way.ensures.added;
      listed = one_more_listed runs c.args.from found i x state l c.ending-item.is at c.loop-ending.invariant.grows c.in_ok-add_way.ensures.added c.loop-ending.invariant.listed;
      few = omega (arith, c.in_ok-add_way.ensures.one, c.loop-ending.invariant.few);
    }

pub returns-clause-covers : goal.returns-clause-covers
returns-clause-covers g c whole =
    let runs = g.B.Board.runs c.args.board.now in
    let state = c.bytes_at.result.now in
    let found = c.deref-ending-items.result.now in
    let at : slice_get (map bytes_of c.args.stored.now.items) c.args.from ≡ Some state =
    subst (λ (t : List Stored). slice_get (map bytes_of t) c.args.from ≡ Some state) c.deref.ensures.value c.bytes_at.ensures in
    let all = subst (λ (t : List Ending). AreAllEndings (runs state) (map ending_view t)) (sym c.deref-ending-items.ensures.value)
    (subst (λ (run : List Given → Outcome). AreAllEndings run (map ending_view c.in_ok-endings.endings.found.items)) c.in_ok-powered.ensures (c.in_ok-endings.ensures.complete whole)) in
    all_listed runs _ _ c.args.from state found c.loop-ending.ending-index c.loop-ending-test.false (grows_state c.loop-ending.invariant.grows c.args.from state at) all c.loop-ending.invariant.listed
