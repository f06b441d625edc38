use Rattle.std.proofs.Common.{◌≡◌}
use Rattle.board_file.specs.BoardFiles.{board_of, with_lines}
use Rattle.board_file.proofs.board_files.parse_board.Given as goal

abbrev pub invariant-loop-number : goal.invariant-loop-number
invariant-loop-number l = board_of l.may_ask l.text ≡ with_lines l.may_ask l.rules.items l.number-iterator
