use Rattle.fw_arguments.specs.DryRuns.{script_run_view}
use Rattle.fw_tools.proofs.ScriptRunLemmas.{script_for}
use Rattle.fw_tools.proofs.script_work.script_of.Goals as goal

pub returns : goal.returns
returns g c =
    script_for (g.X.System.holds c.args.rt.now) (script_run_view c.args.asked.now) _ _ _ c.script_in.result c.in_ok-text.ensures c.bodies_of-bodies.ensures c.name_of_script.ensures c.script_in.ensures
