use Rattle.std.proofs.Common.{◌≡◌, ◌∙◌, ap, subst, true}
use Rattle.std.specs.Prelude.{IfOk}
use Rattle.envimg_core.specs.Environment.{Environment}
use Rattle.envvars_core.specs.Variables.{Contents}
use Rattle.env_session.specs.Session.{Held}
use Rattle.boot_search.specs.DotText.{dot_of}
use Rattle.boot_search.specs.SurveyText.{told_of}
use Rattle.fw_boots.specs.Boots.{power_of, tells_from}
use Rattle.fw_boots.proofs.PowerLemmas.{told_as}
use Rattle.fw_boots.proofs.boot.boot_graph.Goals as goal

pub returns : goal.returns
returns g c =
    let p = power_of c.args.boot.now in
    let of = c.in_ok-survey.ensures in
    let first = ap (λ (v : Contents). v.env) c.vars.ensures ∙ ap (λ (h : Held). h.now.env) c.in_ok-first.ensures in
    let text = subst (λ e. IfOk c.dot_text.result (λ t. t.text.items ≡ dot_of (tells_from e p) (told_of c.in_ok-survey.survey))) first c.dot_text.ensures.text in
    told_as true p c.args.limits.ways c.in_ok-survey.survey c.dot_text.result (of.report, of.boots, of.may_boot, of.few) text c.dot_text.ensures.status
