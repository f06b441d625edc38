use Rattle.std.proofs.Common.{◌≡◌, length}
use Rattle.board_file.specs.Covering.{is_covered}
use Rattle.board_file.proofs.covering.is_covered.Given as goal

abbrev pub invariant-loop-rule : goal.invariant-loop-rule
invariant-loop-rule l = is_covered l.rest l.pattern ≡ is_covered l.rules l.pattern

abbrev pub decreases-loop-rule : goal.decreases-loop-rule
decreases-loop-rule l = length l.rest
