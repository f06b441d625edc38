use Rattle.std.proofs.Common.{ℕ, List, subst}
use Rattle.fw_engines.specs.CopyStatus.{Reports, file_status_of}
use Rattle.fw_tools.proofs.status_work.report_bytes.Goals as goal

pub returns : goal.returns
returns g c = (
  c.file_status-end.result,
  subst (λ (p : List ℕ). Reports (g.W.Write.contents c.args.output.now) (g.W.Write.contents c.file_status-end.new.output) (file_status_of c.args.order p c.args.bytes.now) c.file_status-end.result)
      c.as_bytes.ensures.value c.file_status-end.ensures,
  c.report.ensures.said,
  c.report.ensures.status,
)
