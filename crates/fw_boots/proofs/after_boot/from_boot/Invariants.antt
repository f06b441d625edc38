use Rattle.std.proofs.Common.{◌≡◌, ◌≤◌, length, map}
use Rattle.boot_search.specs.Outcomes.{given_of}
use Rattle.fw_boots.specs.PowerOns.{from_boot}
use Rattle.fw_boots.proofs.after_boot.from_boot.Given as goal

abbrev pub invariant-loop-answer : goal.invariant-loop-answer
invariant-loop-answer l = (from_boot (map given_of l.rest) ≡ from_boot (map given_of l.answers)) × (length l.rest ≤ length l.answers)

abbrev pub decreases-loop-answer : goal.decreases-loop-answer
decreases-loop-answer l = length l.rest
