use Rattle.std.proofs.Common.{◌≡◌, ◌≤◌, length}
use Rattle.fw_check.specs.Excerpts.{shown_to}
use Rattle.fw_check.proofs.excerpts.shown_to.Given as goal

abbrev pub invariant-loop-left : goal.invariant-loop-left
invariant-loop-left l = record {
  same : shown_to l.left l.source l.to ≡ shown_to 40 l.source l.fn.at;
  behind : l.fn.at ≤ l.to;
  inside : l.to ≤ length l.source;
}

abbrev pub decreases-loop-left : goal.decreases-loop-left
decreases-loop-left l = l.left
