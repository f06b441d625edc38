use Rattle.std.proofs.Common.{map, sym, subst, ◌∙◌}
use Rattle.std.proofs.lemmas.List.{length-map}
use Rattle.fw_engines.specs.Tool.{Prints}
use Rattle.fw_engines.proofs.WriteLemmas.{errors_print}
use Rattle.fw_engines.proofs.LineLemmas.{printed_wrong}
use Rattle.fw_engines.proofs.variable_lines.printenv.Goals as goal

pub returns-then-value_only : goal.returns-then-value_only
returns-then-value_only g c =
    subst (λ t. Prints (record { output = g.W.Write.contents c.args.output.now; errors = g.E.Write.contents c.args.errors.now }) (record { output = g.W.Write.contents c.args.output.now; errors = g.E.Write.contents c.print_text.new.writer }) t c.print_text.result)
    (sym (printed_wrong c.args.session.now.now.env (map (λ n. n.now) c.args.names.now) c.args.value_only c.if-value_only.true (λ e. c.if-names-eq1.false (sym (length-map c.args.names.now (λ n. n.now)) ∙ e))))
    (errors_print c.print_text.result _ _ _ _ c.print_text.ensures)
