use Rattle.std.proofs.Common.{◌≡◌, drop, map}
use Rattle.boot_search.specs.Outcomes.{given_of}
use Rattle.fw_boots.specs.Cuts.{choice_in}
use Rattle.fw_boots.proofs.cuts.choice_in.Given as goal

abbrev pub invariant-loop-answer : goal.invariant-loop-answer
invariant-loop-answer l = choice_in (map given_of (drop l.answer-index l.answers)) l.question ≡ choice_in (map given_of l.answers) l.question
