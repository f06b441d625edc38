use Rattle.std.proofs.Common.{◌≡◌, ◌+◌, ◌≤◌, length}
use Rattle.hush_run.specs.Resume.{Leads, room}
use Rattle.hush_syntax.specs.Scripts.{subtree_at}
use Rattle.hush_run.proofs.descent.descend.Given as goal

abbrev pub invariant-loop-frame : goal.invariant-loop-frame
invariant-loop-frame l = record {
  leads : Leads l.script l.initial.frames.frames l.frames.frames l.fn.id l.node;
  height : length l.frames.frames + room (subtree_at l.script l.node) ≤ length l.initial.frames.frames + room (subtree_at l.script l.fn.id);
  room : length l.frames.frames + room (subtree_at l.script l.node) ≤ l.frames.capacity;
  capacity : l.frames.capacity ≡ l.initial.frames.capacity;
}

abbrev pub decreases-loop-frame : goal.decreases-loop-frame
decreases-loop-frame l = room (subtree_at l.script l.node)
