use Rattle.std.proofs.Common.{◌≡◌, ◌≤◌, length, drop}
use Rattle.device_files.specs.Record.{bytes_of}
use Rattle.device_files.proofs.record.text_of.Given as goal

abbrev pub invariant-loop-left : goal.invariant-loop-left
invariant-loop-left l = (bytes_of l.text.value ≡ drop l.left l.bytes) × (l.left ≤ length l.bytes)

abbrev pub decreases-loop-left : goal.decreases-loop-left
decreases-loop-left l = l.left
