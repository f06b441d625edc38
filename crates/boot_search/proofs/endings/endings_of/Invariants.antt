use Rattle.std.proofs.Common.{◌≡◌, ◌≤◌, length, map}
use Rattle.boot_search.specs.Endings.{answers_of, ending_view, Searching}
use Rattle.boot_search.proofs.endings.endings_of.Given as goal

abbrev pub invariant-loop-turn : goal.invariant-loop-turn
invariant-loop-turn g l = record {
  same : g.P.Powered.run l.board ≡ g.P.Powered.run l.initial.board;
  search : Searching (g.P.Powered.run l.initial.board) (map answers_of l.pending.items) (map ending_view l.found.items);
  few : length l.found.items ≤ l.turn;
}
