use Rattle.std.proofs.Common.{◌≡◌, length}
use Rattle.hush_calc.specs.Test.{expression_of, from_joint}
use Rattle.hush_calc.proofs.expression.read_expression.Given as goal

abbrev pub invariant-loop-word : goal.invariant-loop-word
invariant-loop-word l = expression_of l.fn.words ≡ from_joint l.value l.rest

abbrev pub decreases-loop-word : goal.decreases-loop-word
decreases-loop-word l = length l.rest
