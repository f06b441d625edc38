use Rattle.std.proofs.Common.{◌≤◌, vec_len}
use Rattle.hush_run.proofs.frames.Frames.started.Given as goal

abbrev pub invariant-loop-above : goal.invariant-loop-above
invariant-loop-above l = l.above ≤ vec_len l.self-inside.items

abbrev pub decreases-loop-above : goal.decreases-loop-above
decreases-loop-above l = l.above
