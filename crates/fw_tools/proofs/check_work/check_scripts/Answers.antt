use Rattle.std.proofs.Common.{ap}
use Rattle.fw_arguments.specs.Checks.{file_check_view}
use Rattle.fw_check.specs.FileChecks.{scripts_view}
use Rattle.fw_tools.proofs.CheckLemmas.{file-checks-over}
use Rattle.fw_tools.proofs.check_work.check_scripts.Goals as goal

pub returns : goal.returns
returns g c =
    file-checks-over (g.X.System.holds c.args.rt.now) (file_check_view c.args.asked.now) _ _ _ _ _ _ (scripts_view c.in_ok-scripts.scripts.items) c.check_files-end.result _ c.in_ok-given.ensures c.in_ok-scripts.ensures c.check_files-end.ensures
    c.rules_with.ensures (ap scripts_view c.deref.ensures.value) c.leave.ensures.status c.leave.ensures.said
