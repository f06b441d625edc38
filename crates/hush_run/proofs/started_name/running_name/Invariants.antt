use Rattle.std.proofs.Common.{◌≡◌, length}
use Rattle.hush_run.specs.Resume.{place_of}
use Rattle.hush_run.proofs.started_name.running_name.Given as goal

abbrev pub invariant-loop-frame : goal.invariant-loop-frame
invariant-loop-frame l = place_of l.frames.frames ≡ place_of l.initial.frames.frames

abbrev pub decreases-loop-frame : goal.decreases-loop-frame
decreases-loop-frame l = length l.frames.frames
