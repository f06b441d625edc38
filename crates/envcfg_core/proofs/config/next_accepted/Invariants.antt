use Rattle.std.proofs.Common.{◌≡◌, length}
use Rattle.envcfg_core.specs.Config.{accepted_lines}
use Rattle.envcfg_core.proofs.config.next_accepted.Given as goal

abbrev pub invariant-loop-number : goal.invariant-loop-number
invariant-loop-number l = accepted_lines l.initial.lines ≡ accepted_lines l.lines

abbrev pub decreases-loop-number : goal.decreases-loop-number
decreases-loop-number l = length l.lines
