use Rattle.std.proofs.Common.{◌≡◌, length}
use Rattle.hush_run.proofs.LeaveLemmas.{OnTheWay}
use Rattle.hush_run.proofs.descent.leave_text.Given as goal

abbrev pub invariant-loop-frame : goal.invariant-loop-frame
invariant-loop-frame l = record {
  way : OnTheWay l.initial.calls l.initial.frames.frames l.fn.own l.initial.status l.calls l.frames.frames l.inner l.status;
  capacity : l.frames.capacity ≡ l.initial.frames.capacity;
}

abbrev pub decreases-loop-frame : goal.decreases-loop-frame
decreases-loop-frame l = length l.frames.frames
