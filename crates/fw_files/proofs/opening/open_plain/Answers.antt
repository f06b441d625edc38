use Rattle.std.proofs.Common.{◌≡◌, Err, ap, rules, subst, sym, ◌∙◌}
use Rattle.std.specs.Prelude.{IfErr}
use Rattle.std.specs.FinMap as env
use Rattle.envimg_core.specs.declared.choice.Choice.TheVariants.{First, Second}
use Rattle.envvars_core.specs.Variables.{Contents}
use Rattle.fw_arguments.specs.Calls.{defaults_view}
use Rattle.fw_files.specs.Opening.{StopsOpening}
use Rattle.fw_files.specs.declared.stop.Stop.TheVariants.{Memory}
use Rattle.fw_files.proofs.OpeningLemmas.{lacked_memory, stays}
use Rattle.fw_files.proofs.opening.open_plain.Goals as goal

pub returns-in-First-clause-opened : goal.returns-in-First-clause-opened
returns-in-First-clause-opened g c =
    let is = c.empty-none.ensures ∙ ap (λ room. let v : Contents = record { env = env.empty; room = room } in v) c.room.ensures.value in
    stays _ c.args.source.now (defaults_view c.args.asked.now) c.args.spares _ c.in_ok-session.session c.empty-none.result First c.requires is c.in_ok-session.ensures (sym c.current.ensures ∙ c.in-First.is) tt c.without_text.ensures.session c.without_text.ensures.text

pub returns-in-Second-clause-opened : goal.returns-in-Second-clause-opened
returns-in-Second-clause-opened g c =
    let is = c.empty-none.ensures ∙ ap (λ room. let v : Contents = record { env = env.empty; room = room } in v) c.room.ensures.value in
    stays _ c.args.source.now (defaults_view c.args.asked.now) c.args.spares _ c.in_ok-session.session c.empty-none.result Second c.requires is c.in_ok-session.ensures (sym c.current.ensures ∙ c.in-Second.is) tt c.without_text-in-Second.ensures.session c.without_text-in-Second.ensures.text

pub returns-in_err-session-clause-stopped : goal.returns-in_err-session-clause-stopped
returns-in_err-session-clause-stopped g c =
    let asked = defaults_view c.args.asked.now in
    let same : c.from_residual.result ≡ Err Memory = search rules in
    subst (λ r. IfErr r (StopsOpening c.args.source.now asked c.args.spares)) (sym same) (lacked_memory c.args.source.now asked c.args.spares)
