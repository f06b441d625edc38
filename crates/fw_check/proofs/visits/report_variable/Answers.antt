use Rattle.std.proofs.Common.{◌≡◌, rules, subst, ◌∙◌}
use Rattle.std.specs.Prelude.{IfOk, option_map}
use Rattle.fw_check.specs.Checking.{origin_in, script_in}
use Rattle.fw_check.specs.EntryPlaces.{text_view}
use Rattle.fw_check.specs.Looking.{known_in, rules_in}
use Rattle.fw_check.specs.Origins.{Origin, origin_view}
use Rattle.fw_check.specs.Reports.{GoesOn}
use Rattle.fw_check.proofs.visits.report_variable.Goals as goal

pub returns : goal.returns
returns c =
    let told : origin_view c.of-origin.result ≡ origin_in c.args.report (option_map text_view c.args.file) c.args.name.now = search rules in
    subst (λ (o : Origin). IfOk c.check_script.result (λ after. GoesOn (known_in c.args.lookups.now) (rules_in c.args.lookups.now) o c.args.asked (script_in c.args.vars.now.env c.args.name.now) c.args.report after)) told
    (subst (λ t. IfOk c.check_script.result (λ after. GoesOn (known_in c.args.lookups.now) (rules_in c.args.lookups.now) (origin_view c.of-origin.result) c.args.asked t c.args.report after))
    (c.deref.ensures.value ∙ c.in_ok-text.ensures) c.check_script.ensures)
