use Rattle.std.proofs.Common.{◌≡◌, ◌==◌, ◌≤◌, ◌++◌, length, drop}
use Rattle.fw_check.specs.Gathering.{link_parts, operator_of}
use Rattle.fw_check.proofs.items.Waiting.push_links.Given as goal

abbrev pub invariant-loop-left : goal.invariant-loop-left
invariant-loop-left l = record {
  within : l.left ≤ length l.links;
  put : l.self ≡ link_parts l.fn.setting (operator_of l.links) (l.left == 0) (drop l.left l.links) ++ l.initial.self;
}

abbrev pub decreases-loop-left : goal.decreases-loop-left
decreases-loop-left l = l.left
