use Rattle.std.proofs.Common.{◌≡◌, length}
use Rattle.fw_check.specs.ScriptValues.{without_gap}
use Rattle.fw_check.proofs.script_values.without_gap.Given as goal

abbrev pub invariant-loop-first : goal.invariant-loop-first
invariant-loop-first l = without_gap l.rest ≡ without_gap l.text

abbrev pub decreases-loop-first : goal.decreases-loop-first
decreases-loop-first l = length l.rest
