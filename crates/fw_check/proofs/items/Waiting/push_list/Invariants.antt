use Rattle.std.proofs.Common.{◌≡◌, ◌==◌, ◌≤◌, ◌++◌, length, drop}
use Rattle.fw_check.specs.Gathering.{list_parts}
use Rattle.fw_check.proofs.items.Waiting.push_list.Given as goal

abbrev pub invariant-loop-left : goal.invariant-loop-left
invariant-loop-left l = record {
  within : l.left ≤ length l.chains;
  put : l.self ≡ list_parts l.fn.shows l.fn.setting (l.left == 0) (drop l.left l.chains) ++ l.initial.self;
}

abbrev pub decreases-loop-left : goal.decreases-loop-left
decreases-loop-left l = l.left
