use Rattle.hush_syntax.specs.Scripts.{subtree_at, tree_of}
use Rattle.fw_check.specs.Gathering.{size_at}
use Rattle.fw_check.specs.Statements.{of_script}
use Rattle.fw_check.proofs.GatherLemmas.{StillGathers}
use Rattle.fw_check.proofs.items.items_from.Given as goal

abbrev pub invariant-loop-part : goal.invariant-loop-part
invariant-loop-part l =
    StillGathers l.script.text l.shows (subtree_at l.script) (of_script l.shows l.fn.asked (tree_of l.script)) l.words l.items.items l.coming l.waiting

abbrev pub decreases-loop-part : goal.decreases-loop-part
decreases-loop-part l = size_at (subtree_at l.script) l.waiting
