use Rattle.std.proofs.Common.{◌≡◌, ◌++◌, length}
use Rattle.fw_check.specs.Menus.{blanked}
use Rattle.fw_check.proofs.menu.blanked.Given as goal

abbrev pub invariant-loop-byte : goal.invariant-loop-byte
invariant-loop-byte l = l.text.items ++ blanked l.left ≡ blanked l.value

abbrev pub decreases-loop-byte : goal.decreases-loop-byte
decreases-loop-byte l = length l.left
