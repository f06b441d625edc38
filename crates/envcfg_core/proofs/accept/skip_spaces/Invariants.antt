use Rattle.std.proofs.Common.{◌≡◌, length}
use Rattle.envcfg_core.specs.Config.{fields}
use Rattle.envcfg_core.proofs.accept.skip_spaces.Given as goal

abbrev pub invariant-loop-first : goal.invariant-loop-first
invariant-loop-first l = fields l.rest ≡ fields l.text

abbrev pub decreases-loop-first : goal.decreases-loop-first
decreases-loop-first l = length l.rest
