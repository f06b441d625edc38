use Rattle.std.proofs.Common.{◌≡◌, drop, fold, map}
use Rattle.boot_search.specs.Outcomes.{given_of}
use Rattle.fw_boots.specs.Cuts.{done_to}
use Rattle.fw_boots.proofs.cuts.saves_done.Given as goal

abbrev pub invariant-loop-answer : goal.invariant-loop-answer
invariant-loop-answer l = fold done_to l.step (map given_of (drop l.answer-index l.answers)) ≡ fold done_to 0 (map given_of l.answers)
