use Rattle.std.proofs.Common.{◌≡◌, ◌≤◌}
use Rattle.fw_check.specs.Excerpts.{shown_from}
use Rattle.fw_check.proofs.excerpts.shown_from.Given as goal

abbrev pub invariant-loop-left : goal.invariant-loop-left
invariant-loop-left l = record {
  same : shown_from l.left l.source l.from ≡ shown_from 30 l.source l.fn.at;
  before : l.from ≤ l.fn.at;
}

abbrev pub decreases-loop-left : goal.decreases-loop-left
decreases-loop-left l = l.left
