use Rattle.std.proofs.Common.{◌≡◌, drop, map}
use Rattle.boot_search.specs.Outcomes.{given_of}
use Rattle.fw_boots.specs.PowerOns.{chosen}
use Rattle.fw_boots.proofs.after_boot.chosen.Given as goal

abbrev pub invariant-loop-answer : goal.invariant-loop-answer
invariant-loop-answer l = chosen (map given_of (drop l.answer-index l.answers)) ≡ chosen (map given_of l.answers)
