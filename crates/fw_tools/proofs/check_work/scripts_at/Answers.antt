use Rattle.std.proofs.Common.{arith, map, subst, sym, take}
use Rattle.std.proofs.lemmas.List.{map_more, take_all}
use Rattle.fw_check.specs.FileChecks.{scripts_view}
use Rattle.fw_tools.specs.CheckRuns.{AreScriptsAt}
use Rattle.fw_tools.proofs.CheckLemmas.{file_added}
use Rattle.fw_tools.proofs.check_work.scripts_at.Goals as goal

pub loop-path-preserved : goal.loop-path-preserved
loop-path-preserved g c =
    let holds = g.X.System.holds c.args.rt.now in
    let new = scripts_view c.add_script.new.scripts.items in
    let all = file_added holds (map (λ p. p.now) (take c.loop-path.path-index c.args.paths.now)) _ _ new c.loop-path.invariant c.in_ok-add_script.ensures in
    subst (λ ps. AreScriptsAt holds ps new) (sym (map_more (λ p. p.now) c.args.paths.now c.loop-path.path-index _ c.loop-path-test.true)) all

pub returns : goal.returns
returns g c =
    let paths = c.args.paths.now in
    let whole = take_all c.loop-path.path-index paths (omega (arith, c.loop-path-test.false)) in
    subst (λ ps. AreScriptsAt (g.X.System.holds c.args.rt.now) (map (λ p. p.now) ps) (scripts_view c.loop-path.scripts.items)) whole c.loop-path.invariant
