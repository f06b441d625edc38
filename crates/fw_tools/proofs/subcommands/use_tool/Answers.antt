use Rattle.std.proofs.Common.{true, false, refl, sym}
use Rattle.fw_arguments.specs.Calls.{task_view}
use Rattle.fw_tools.proofs.SubcommandLemmas.{kept_if, used_tool}
use Rattle.fw_tools.proofs.subcommands.use_tool.Goals as goal

pub returns-then-is_left : goal.returns-then-is_left
returns-then-is_left g c =
    let task = task_view c.args.task in
    used_tool (g.X.System.holds c.args.rt.now) c.args.only_changes false task c.args.source.now c.args.opened _ _ _ c.in_ok-end.end _ _ c.in_ok-end.ensures
    (sym (kept_if c.is_left.result c.args.only_changes _ _ _ true task c.args.opened c.act.new.session c.is_left.ensures c.changes.ensures c.current-current.ensures c.touched-touched.ensures c.if-is_left.true))
    (c.report.ensures.said, c.report.ensures.status, refl)

pub returns : goal.returns
returns g c =
    let task = task_view c.args.task in
    used_tool (g.X.System.holds c.args.rt.now) c.args.only_changes true task c.args.source.now c.args.opened _ _ _ c.in_ok-end.end _ _ c.in_ok-end.ensures
    (sym (kept_if c.is_left.result c.args.only_changes _ _ _ false task c.args.opened c.act.new.session c.is_left.ensures c.changes.ensures c.current-current.ensures c.touched-touched.ensures c.if-is_left.false))
    c.finish.ensures
