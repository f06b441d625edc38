use Rattle.std.proofs.Common.{◌≡◌, ◌==◌, ◌≤◌, ◌++◌, length, drop}
use Rattle.fw_check.specs.Gathering.{branch_parts}
use Rattle.fw_check.proofs.items.Waiting.push_branches.Given as goal

abbrev pub invariant-loop-left : goal.invariant-loop-left
invariant-loop-left l = record {
  within : l.left ≤ length l.branches;
  put : l.self ≡ branch_parts l.fn.setting l.fn.bare (l.left == 0) (drop l.left l.branches) ++ l.initial.self;
}

abbrev pub decreases-loop-left : goal.decreases-loop-left
decreases-loop-left l = l.left
