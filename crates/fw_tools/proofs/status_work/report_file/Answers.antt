use Rattle.std.proofs.Common.{subst, sym}
use Rattle.fw_files.specs.Files.{IsTextAt}
use Rattle.fw_tools.proofs.status_work.report_file.Goals as goal

pub returns : goal.returns
returns g c =
    let holds = g.X.System.holds c.args.rt.now in
    (_, c.in_ok-bytes.ensures.waited, (c.deref.result.now, subst (IsTextAt holds c.args.path.now) (sym c.deref.ensures.value) c.in_ok-bytes.ensures.held, c.report_bytes.ensures))
