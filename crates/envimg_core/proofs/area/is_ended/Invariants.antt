use Rattle.std.proofs.Common.{◌≡◌, ◌≤◌, length}
use Rattle.envimg_core.specs.Pieces.{is_terminated}
use Rattle.envimg_core.proofs.area.is_ended.Given as goal

abbrev pub invariant-pieces : goal.invariant-pieces
invariant-pieces l = record {
  same : is_terminated l.area ≡ is_terminated l.rest;
  short : length l.rest ≤ length l.area;
}

abbrev pub decreases-pieces : goal.decreases-pieces
decreases-pieces l = length l.rest
