use Rattle.std.proofs.Common.{◌≡◌, ◌+◌, length, take, drop}
use Rattle.board_file.specs.BoardLines.{cut_at_arrow, cut_from}
use Rattle.board_file.proofs.PartLemmas.{after}
use Rattle.board_file.proofs.line_parts.cut_at_arrow.Given as goal

abbrev pub invariant-loop-byte : goal.invariant-loop-byte
invariant-loop-byte l =
    (cut_at_arrow l.line ≡ after (take l.at l.line) (cut_from l.begins l.rest)) × (l.rest ≡ drop l.at l.line) × (l.at + length l.rest ≡ length l.line)

abbrev pub decreases-loop-byte : goal.decreases-loop-byte
decreases-loop-byte l = length l.rest
