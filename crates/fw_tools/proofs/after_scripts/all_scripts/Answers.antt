use Rattle.std.proofs.Common.{arith, map, subst, sym, take}
use Rattle.std.proofs.lemmas.List.{map_more, take_all}
use Rattle.hush_syntax.specs.Scripts.{tree_of}
use Rattle.fw_tools.specs.PowerOns.{AreScriptsOf}
use Rattle.fw_tools.proofs.PowerOnLemmas.{script_added}
use Rattle.fw_tools.proofs.after_scripts.all_scripts.Goals as goal

pub loop-path-preserved : goal.loop-path-preserved
loop-path-preserved g c =
    let holds = g.X.System.holds c.args.rt.now in
    let new = map tree_of c.push_script.new.scripts.items in
    let all = script_added holds c.args.bodies (map (λ p. p.now) (take c.loop-path.path-index c.args.paths.now)) _ _ new c.loop-path.invariant c.in_ok-push_script.ensures in
    subst (λ ps. AreScriptsOf holds c.args.bodies ps new) (sym (map_more (λ p. p.now) c.args.paths.now c.loop-path.path-index _ c.loop-path-test.true)) all

pub returns : goal.returns
returns g c =
    let paths = c.args.paths.now in
    let whole = take_all c.loop-path.path-index paths (omega (arith, c.loop-path-test.false)) in
    subst (λ ps. AreScriptsOf (g.X.System.holds c.args.rt.now) c.args.bodies (map (λ p. p.now) ps) (map tree_of c.loop-path.scripts.items)) whole c.loop-path.invariant
