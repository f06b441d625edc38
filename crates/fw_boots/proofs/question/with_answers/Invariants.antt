use Rattle.std.proofs.Common.{◌≡◌, map, take}
use Rattle.boot_search.specs.Outcomes.{given_of}
use Rattle.fw_boots.specs.PowerOns.{answer_rule}
use Rattle.fw_boots.proofs.question.with_answers.Given as goal

abbrev pub invariant-loop-answer : goal.invariant-loop-answer
invariant-loop-answer l = l.first.items ≡ map answer_rule (map given_of (take l.answer-index l.answers))
