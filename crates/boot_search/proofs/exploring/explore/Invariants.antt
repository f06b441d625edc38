use Rattle.std.proofs.Common.{◌≡◌, ◌<◌, ◌≤◌, ℕ, Some, length, map}
use Rattle.std.specs.Prelude.{slice_get, IsTrue}
use Rattle.boot_search.specs.Reports.{step_of, bytes_of, reached_by_of, AreSteps, Covers}
use Rattle.boot_search.specs.Places.{AreAt}
use Rattle.boot_search.proofs.exploring.explore.Given as goal

abbrev pub invariant-loop-from : goal.invariant-loop-from
invariant-loop-from g l = record {
  places : AreAt (map bytes_of l.stored.items) l.places;
  first : slice_get (map bytes_of l.stored.items) 0 ≡ Some l.start;
  steps : AreSteps (g.B.Board.runs l.board) (map bytes_of l.stored.items) (map reached_by_of l.stored.items) (map step_of l.ways.items);
  covers : IsTrue l.complete → (i : ℕ) → i < l.from → Covers (g.B.Board.runs l.board) (map bytes_of l.stored.items) (map step_of l.ways.items) i;
  few : length l.ways.items ≤ l.limits.ways;
}
