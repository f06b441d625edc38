use Rattle.std.proofs.Common.{map, take}
use Rattle.fw_check.specs.FileChecks.{scripts_view}
use Rattle.fw_tools.specs.CheckRuns.{AreScriptsAt}
use Rattle.fw_tools.proofs.check_work.scripts_at.Given as goal

abbrev pub invariant-loop-path : goal.invariant-loop-path
invariant-loop-path g l = AreScriptsAt (g.X.System.holds l.rt) (map (λ p. p.now) (take l.path-index l.paths)) (scripts_view l.scripts.items)
