use Rattle.std.proofs.Common.{◌∙◌, List, Option, ap, false, map, ℕ}
use Rattle.envvars_core.specs.Variables.{Contents}
use Rattle.hush_commands.specs.Hardware.{hardware}
use Rattle.hush_run.specs.Runs.{rules_in}
use Rattle.hush_syntax.specs.Scripts.{tree_of}
use Rattle.fw_arguments.specs.PowerOns.{power_ons_view}
use Rattle.fw_tools.specs.PowerOns.{cutting_for}
use Rattle.fw_tools.specs.NewImages.{image_bytes}
use Rattle.fw_tools.proofs.PowerOnLemmas.{power_is, tells}
use Rattle.fw_tools.proofs.boot_work.told_of.Goals as goal

pub returns : goal.returns
returns g c =
    let asked = power_ons_view c.args.asked.now in
    let given = hardware c.args.given.now.board c.args.given.now.stand_ins in
    let session = c.args.session.now in
    let after = map tree_of c.args.after.now in
    let tree = tree_of c.in_ok-script.script in
    let first = c.deref-2.ensures.value ∙ c.in-Ok.ensures ∙ ap (λ (v : Contents). image_bytes c.in-Some.geometry false v.env) c.vars.ensures
    ∙ ap (λ shape. image_bytes shape false session.now.env) c.in-Some.ensures in
    let bad = c.deref.ensures.value ∙ c.in-Ok-copy_of.ensures ∙ ap (λ (v : Contents). image_bytes c.in-Some.geometry false v.env) c.defaults.ensures
    ∙ ap (λ shape. image_bytes shape false session.defaults.env) c.in-Some.ensures in
    let cuts = c.cuts_for.ensures ∙ ap (λ (second : Option (List ℕ)). cutting_for asked.cuts second c.deref.result.now) c.copy.ensures
    ∙ ap (cutting_for asked.cuts session.now.second) bad in
    tells asked given after session tree _ c.watched_text.result c.in_ok-script.ensures
    (power_is (rules_in asked.dry.shell given asked.dry.limits) _ _ asked.counts tree after _ _ _ _ _ _ cuts c.in-Some.ensures c.defaults-2.ensures first) c.watched_text.ensures
