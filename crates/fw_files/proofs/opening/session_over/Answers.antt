use Rattle.std.proofs.Common.{◌≡◌, Err, false, rules, subst, sym, true, ℕ, ◌∙◌}
use Rattle.std.specs.Prelude.{IfErr, is_none}
use Rattle.fw_arguments.specs.Calls.{defaults_view}
use Rattle.fw_files.specs.Source.{AreDefaultsOf, kept_view}
use Rattle.fw_files.specs.declared.file_fault.FileFault.TheVariants.{Memory}
use Rattle.fw_files.proofs.opening.session_over.Goals as goal

pub returns-clause-opens : goal.returns-clause-opens
returns-clause-opens g c =
    let read = c.in_ok-given.given in
    let given = subst (λ (room : ℕ). AreDefaultsOf (g.X.System.holds c.args.rt.now) room (defaults_view c.args.asked.now) (kept_view read.text) read.vars) c.room.ensures.value c.in_ok-given.ensures.read in
    (_, given, c.in_ok-session.ensures)

pub returns-in_err-given-clause-at_fault : goal.returns-in_err-given-clause-at_fault
returns-in_err-given-clause-at_fault g c =
    let fault = c.in_err-given.field-0.0 in
    let same : c.from_residual.result ≡ Err fault = search rules in
    let some = c.in_err-given.ensures.at_fault in
    subst (λ r. IfErr r (λ e. is_none c.args.asked.now.path ≡ true → e ≡ Memory)) (sym same) (λ none. let other : false ≡ true = sym some ∙ none in absurd cc)
