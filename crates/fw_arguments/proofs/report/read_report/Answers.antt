use Rattle.std.proofs.Common.{ap, ◌∙◌}
use Rattle.clap.specs.Words.{found_of, rows_of}
use Rattle.fw_arguments.specs.Report.{subject_view}
use Rattle.fw_arguments.specs.Words.{either_order}
use Rattle.fw_arguments.proofs.CallLemmas.{report_is}
use Rattle.fw_arguments.proofs.WordLemmas.{order_by_rows}
use Rattle.fw_arguments.proofs.report.read_report.Goals as goal

pub returns-in-Ok : goal.returns-in-Ok
returns-in-Ok c =
    report_is c.args.order _ (rows_of (found_of c.args.found.now)) (subject_view c.in-Ok.subject)
    (c.either_order.ensures ∙ ap (either_order c.args.order) (c.chosen_order.ensures ∙ order_by_rows c.args.found.now)) c.in-Ok.ensures
