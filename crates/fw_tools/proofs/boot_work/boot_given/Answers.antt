use Rattle.std.proofs.Common.{List, subst, map}
use Rattle.hush_syntax.specs.Scripts.{tree_of}
use Rattle.hush_syntax.specs.declared.script.Script.{Script}
use Rattle.hush_commands.specs.Hardware.{hardware}
use Rattle.fw_arguments.specs.PowerOns.{power_ons_view}
use Rattle.fw_tools.specs.PowerOns.{AreScriptsOf, PrintsBoots}
use Rattle.fw_tools.proofs.boot_work.boot_given.Goals as goal

pub returns : goal.returns
returns g c =
    let given = hardware c.in_ok-hardware.hardware.board c.in_ok-hardware.hardware.stand_ins in
    let prints : List Script → Type 0 = λ scripts.
    PrintsBoots (power_ons_view c.args.asked.now) given (map tree_of scripts) c.args.session.now
    (g.W.Write.contents c.args.output.now) (g.W.Write.contents c.print_boots-end.new.output) c.print_boots-end.result in
    let printed = subst prints c.deref.ensures.value c.print_boots-end.ensures in (
      given,
      map tree_of c.in_ok-after.after.items,
      c.in_ok-hardware.ensures.read,
      subst (λ b. AreScriptsOf (g.X.System.holds c.args.rt.now) b (power_ons_view c.args.asked.now).after (map tree_of c.in_ok-after.after.items)) c.bodies_of.ensures c.in_ok-after.ensures,
      (c.print_boots-end.result, printed, c.report.ensures.said, c.report.ensures.status),
    )
