use Rattle.std.proofs.Common.{◌≡◌, length}
use Rattle.board_file.specs.Covering.{covers}
use Rattle.board_file.proofs.covering.covers.Given as goal

abbrev pub invariant-loop-word : goal.invariant-loop-word
invariant-loop-word l = covers l.words l.left ≡ covers l.pattern l.other

abbrev pub decreases-loop-word : goal.decreases-loop-word
decreases-loop-word l = length l.words
