use Rattle.std.proofs.Common.{◌≡◌, length}
use Rattle.hush_calc.specs.Board.{board_from, nothing_read}
use Rattle.hush_calc.proofs.board.read_all.Given as goal

abbrev pub invariant-loop-word : goal.invariant-loop-word
invariant-loop-word g l = board_from (g.F.Files.there l.files) nothing_read l.fn.words ≡ board_from (g.F.Files.there l.files) l.reading l.rest

abbrev pub decreases-loop-word : goal.decreases-loop-word
decreases-loop-word g l = length l.rest
