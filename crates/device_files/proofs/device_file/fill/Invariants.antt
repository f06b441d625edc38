use Rattle.std.proofs.Common.{length, ◌-◌, ◌≤◌, ◌≡◌}
use Rattle.device_files.proofs.device_file.fill.Given as goal

abbrev pub invariant-loop-count : goal.invariant-loop-count
invariant-loop-count g l = (l.count ≤ length l.room) × (length l.room ≡ length l.fn.room)

abbrev pub decreases-loop-count : goal.decreases-loop-count
decreases-loop-count g l = length l.initial.room - l.count
