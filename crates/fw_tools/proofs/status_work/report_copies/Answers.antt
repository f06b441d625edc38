use Rattle.std.proofs.Common.{subst, sym}
use Rattle.fw_files.specs.Files.{IsTextAt}
use Rattle.fw_files.specs.Source.{IsTextOfConfig}
use Rattle.fw_tools.proofs.CopyReportLemmas.{surveyed}
use Rattle.fw_tools.proofs.status_work.report_copies.Goals as goal

pub returns : goal.returns
returns g c =
    let holds = g.X.System.holds c.args.rt.now in
    let found = c.in_ok-found.found in
    let read = c.in_ok-found.ensures.read in
    let text = c.deref.result.now in
    let held = subst (IsTextAt holds c.args.path.now) (sym c.deref.ensures.value) read.0 in
    let reads = subst (λ t. IsTextOfConfig t read.1.0) (sym c.deref.ensures.value) read.1.1 in
    let is = surveyed holds c.args.order c.args.path.now text read.1.0 found.source c.survey_in-survey.result held reads read.1.2 c.survey_in-survey.ensures in
    (_, c.in_ok-found.ensures.waited, (c.survey_in-survey.result, is, (c.status-end.result, c.status-end.ensures, c.report.ensures.said, c.report.ensures.status)))
