use Rattle.std.proofs.Common.{Err, refl, sym, ◌∙◌, ap}
use Rattle.clap.specs.Words.{found_of, rows_of}
use Rattle.fw_arguments.specs.ProgramNames.{called_in}
use Rattle.fw_arguments.specs.Report.{asked_of}
use Rattle.fw_arguments.specs.WordFaults.{fault_text}
use Rattle.fw_arguments.specs.Words.{order_in}
use Rattle.fw_tools.proofs.EntryPointLemmas.{called_does}
use Rattle.fw_tools.proofs.entry_point.act_on.Goals as goal

pub returns-in-Ok-clause-does : goal.returns-in-Ok-clause-does
returns-in-Ok-clause-does g c =
    let m = c.args.matches.now in
    let name = c.in-Some.name.now in
    let rows = rows_of (found_of c.in-Some.found.now) in
    called_does (g.X.System.holds c.args.rt.now) (g.X.System.wrote c.args.rt.now) c.args.refused (order_in m) (called_in c.args.under m) name rows _ _ _ _ c.run_asked.result (sym c.in-Some.ensures)
    (c.in-Ok.ensures ∙ ap (λ o. asked_of o name rows) c.chosen_order-order.ensures) (c.run_asked.ensures.called c.args.refused)

pub returns-in-Err-clause-does : goal.returns-in-Err-clause-does
returns-in-Err-clause-does g c =
    let m = c.args.matches.now in
    let name = c.in-Some.name.now in
    let rows = rows_of (found_of c.in-Some.found.now) in
    called_does (g.X.System.holds c.args.rt.now) (g.X.System.wrote c.args.rt.now) c.args.refused (order_in m) (called_in c.args.under m) name rows (Err (fault_text c.in-Err.fault)) _ _ _ c.args.refused (sym c.in-Some.ensures)
    (c.in-Err.ensures ∙ ap (λ o. asked_of o name rows) c.chosen_order-order.ensures) (refl, refl, c.say_word_fault.ensures, refl, refl)
