use Rattle.std.proofs.Common.{◌≡◌, length}
use Rattle.fw_session.specs.Asked.{skipped}
use Rattle.fw_session.proofs.mark_names.skipped.Given as goal

abbrev pub invariant-loop-rest : goal.invariant-loop-rest
invariant-loop-rest l = skipped l.rest ≡ skipped l.bytes

abbrev pub decreases-loop-rest : goal.decreases-loop-rest
decreases-loop-rest l = length l.rest
