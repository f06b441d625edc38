use Rattle.std.proofs.Common.{◌≡◌, ◌≤◌, drop, fold}
use Rattle.run_limits.specs.Limits.{most_steps}
use Rattle.fw_boots.specs.Cuts.{step_after}
use Rattle.fw_boots.proofs.cuts.step_in.Given as goal

abbrev pub invariant-loop-byte : goal.invariant-loop-byte
invariant-loop-byte l = (fold step_after l.step (drop l.byte-index l.question) ≡ fold step_after 0 l.question) × (l.step ≤ most_steps)
