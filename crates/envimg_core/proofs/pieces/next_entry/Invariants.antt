use Rattle.std.proofs.Common.{◌≡◌, length}
use Rattle.envimg_core.specs.Pieces.{entries_of}
use Rattle.envimg_core.proofs.pieces.next_entry.Given as goal

abbrev pub invariant-pieces : goal.invariant-pieces
invariant-pieces l = entries_of l.area ≡ entries_of l.rest

abbrev pub decreases-pieces : goal.decreases-pieces
decreases-pieces l = length l.rest
