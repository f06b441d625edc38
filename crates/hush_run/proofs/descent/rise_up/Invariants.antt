use Rattle.std.proofs.Common.{◌≡◌, length}
use Rattle.hush_run.specs.Rises.{IsLeft}
use Rattle.hush_run.specs.declared.due.Due.TheVariants as due
use Rattle.hush_run.proofs.descent.rise_up.Given as goal

abbrev pub invariant-loop-frame : goal.invariant-loop-frame
invariant-loop-frame l = record {
  leaves : IsLeft l.shell l.initial.calls l.initial.frames.frames l.initial.status l.calls l.frames.frames l.status due.Over;
  capacity : l.frames.capacity ≡ l.initial.frames.capacity;
}

abbrev pub decreases-loop-frame : goal.decreases-loop-frame
decreases-loop-frame l = length l.frames.frames
