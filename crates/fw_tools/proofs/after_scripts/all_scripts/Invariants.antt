use Rattle.std.proofs.Common.{map, take}
use Rattle.hush_syntax.specs.Scripts.{tree_of}
use Rattle.fw_tools.specs.PowerOns.{AreScriptsOf}
use Rattle.fw_tools.proofs.after_scripts.all_scripts.Given as goal

abbrev pub invariant-loop-path : goal.invariant-loop-path
invariant-loop-path g l = AreScriptsOf (g.X.System.holds l.rt) l.bodies (map (λ p. p.now) (take l.path-index l.paths)) (map tree_of l.scripts.items)
