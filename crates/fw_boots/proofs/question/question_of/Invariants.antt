use Rattle.std.proofs.Common.{◌≡◌, ◌++◌, length}
use Rattle.fw_boots.specs.PowerOns.{question_of}
use Rattle.fw_boots.proofs.question.question_of.Given as goal

abbrev pub invariant-loop-word : goal.invariant-loop-word
invariant-loop-word l = l.question.items ++ question_of l.rest ≡ question_of l.words

abbrev pub decreases-loop-word : goal.decreases-loop-word
decreases-loop-word l = length l.rest
