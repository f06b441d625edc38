use Rattle.std.proofs.Common.{◌≡◌, length, reverse}
use Rattle.text_parts.specs.Bytes.{without_blanks}
use Rattle.board_file.specs.Answers.{trimmed}
use Rattle.board_file.proofs.line_parts.trimmed.Given as goal

abbrev pub invariant-loop-last : goal.invariant-loop-last
invariant-loop-last l = reverse (without_blanks (reverse l.rest)) ≡ trimmed l.text

abbrev pub decreases-loop-last : goal.decreases-loop-last
decreases-loop-last l = length l.rest
