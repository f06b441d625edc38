use Rattle.std.proofs.Common.{ℕ, List, ◌∙◌, ap, map, subst}
use Rattle.fw_tools.specs.Subcommands.{printed_so}
use Rattle.fw_engines.specs.Tool.{Printed}
use Rattle.fw_tools.proofs.SubcommandLemmas.{made_first}
use Rattle.fw_tools.proofs.printing.print.Goals as goal

pub returns : goal.returns
returns g c =
    let env = c.args.session.now.now.env in
    let end = c.write_both.result in
    let names = map (λ n. n.now) c.deref.result.now in
    let printed : List (List ℕ) → Type 0 = λ ns.
    Printed end.fault (record { output = g.W.Write.contents c.args.output.now; errors = g.E.Write.contents c.args.errors.now })
    (record { output = g.W.Write.contents c.write_both.new.output; errors = g.E.Write.contents c.write_both.new.errors }) (printed_so c.args.printing env ns) end.status in
    subst printed (ap (map (λ n. n.now)) c.deref.ensures.value ∙ c.in_ok-names.ensures)
    (made_first end c.print_so-end.result _ _ (printed_so c.args.printing env names) _ _ _ _ _ _ c.in-None.is c.print_so-end.ensures
    c.new-text.ensures.items c.new-messages.ensures.items c.deref-in-None.ensures.value c.deref-in-None-2.ensures.value c.write_both.ensures)
