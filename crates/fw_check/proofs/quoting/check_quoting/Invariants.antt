use Rattle.std.proofs.Common.{◌≡◌, ◌-◌, drop, length}
use Rattle.fw_check.specs.Found.{found_more}
use Rattle.fw_check.specs.Quoting.{odd_findings, quoting_findings}
use Rattle.fw_check.proofs.quoting.check_quoting.Given as goal

abbrev pub invariant-loop-count : goal.invariant-loop-count
invariant-loop-count l =
    found_more l.findings (odd_findings l.inside l.count (drop l.count l.text)) ≡ found_more l.initial.findings (quoting_findings l.text)

abbrev pub decreases-loop-count : goal.decreases-loop-count
decreases-loop-count l = length l.text - l.count
