use Rattle.std.proofs.Common.{subst, sym}
use Rattle.fw_files.specs.Files.{IsTextAt}
use Rattle.fw_tools.proofs.find_work.find.Goals as goal

pub returns-in-Ok : goal.returns-in-Ok
returns-in-Ok g c = (
  c.deref.result.now,
  subst (IsTextAt (g.X.System.holds c.args.rt.now) c.args.path.now) (sym c.deref.ensures.value) c.in-Ok.ensures.held,
  (c.print_found.result, c.print_found.ensures, c.report.ensures.said, c.report.ensures.status),
)
