use Rattle.std.proofs.Common.{◌≤◌, ◌+◌, length, map, take}
use Rattle.std.specs.Prelude.{All}
use Rattle.boot_search.specs.Endings.{ending_view}
use Rattle.boot_search.specs.Reports.{step_of, bytes_of, reached_by_of, AreSteps, Grows, IsListed}
use Rattle.boot_search.specs.Places.{AreAt}
use Rattle.boot_search.proofs.exploring.explore_stored.Given as goal

abbrev pub invariant-loop-ending : goal.invariant-loop-ending
invariant-loop-ending g l = record {
  places : AreAt (map bytes_of l.stored.items) l.places;
  steps : AreSteps (g.B.Board.runs l.board) (map bytes_of l.stored.items) (map reached_by_of l.stored.items) (map step_of l.ways.items);
  grows : Grows (map bytes_of l.initial.stored.items) (map step_of l.initial.ways.items) (map bytes_of l.stored.items) (map step_of l.ways.items);
  listed : All (IsListed (map bytes_of l.stored.items) (map step_of l.ways.items) l.from) (map ending_view (take l.ending-index l.ending-items));
  few : length l.ways.items ≤ length l.initial.ways.items + l.ending-index;
}
