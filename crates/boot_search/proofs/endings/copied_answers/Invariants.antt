use Rattle.std.proofs.Common.{◌≡◌, ◌++◌, drop, map}
use Rattle.boot_search.specs.Outcomes.{given_of}
use Rattle.boot_search.proofs.endings.copied_answers.Given as goal

abbrev pub invariant-loop-answer : goal.invariant-loop-answer
invariant-loop-answer l = map given_of l.copy.items ++ map given_of (drop l.answer-index l.answers) ≡ map given_of l.answers
