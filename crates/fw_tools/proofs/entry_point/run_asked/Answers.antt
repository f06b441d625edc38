use Rattle.fw_arguments.specs.Report.{asked_view}
use Rattle.fw_tools.proofs.SubcommandLemmas.{called, called_small}
use Rattle.fw_tools.proofs.entry_point.run_asked.Goals as goal

pub returns-clause-called : goal.returns-clause-called
returns-clause-called g c refused =
    called (g.X.System.holds c.args.rt.now) (g.X.System.wrote c.args.rt.now) refused (asked_view c.args.asked.now) _ _ _ _ _ _ c.do_asked-ended.result c.of.result _ _ c.of.ensures c.stopped_status.ensures c.do_asked-ended.ensures c.status_or_say.ensures.done c.status_or_say.ensures.halted

pub returns-clause-status : goal.returns-clause-status
returns-clause-status g c = called_small (g.X.System.holds c.args.rt.now) (g.X.System.wrote c.args.rt.now) 1 (asked_view c.args.asked.now) _ _ _ _ (returns-clause-called g c 1)
