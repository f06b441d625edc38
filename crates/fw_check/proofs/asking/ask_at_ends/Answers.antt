use Rattle.std.proofs.Common.{true, ap, sym, ◌∙◌}
use Rattle.std.specs.Prelude.{option_map}
use Rattle.fw_check.specs.Checking.{script_in}
use Rattle.fw_check.specs.Following.{follow_fronts}
use Rattle.fw_check.specs.Looking.{rules_in}
use Rattle.fw_check.specs.Naming.{asked_in}
use Rattle.fw_check.proofs.VisitLemmas.{no-more, walks-all, walks-next, walks-none}
use Rattle.fw_check.proofs.asking.ask_at_ends.Goals as goal

pub loop-name-init : goal.loop-name-init
loop-name-init c = walks-none (asked_in (rules_in c.args.lookups.now) true) c.args.vars.now.env c.args.asked.now c.requires

pub loop-name-preserved : goal.loop-name-preserved
loop-name-preserved c =
    let in_text = asked_in (rules_in c.args.lookups.now) true in
    let env = c.args.vars.now.env in
    let now = c.loop-name.asked in
    let here = sym c.in_ok-name.ensures.name ∙ ap (option_map (λ v. v.items)) c.in-Some.is in
    walks-next in_text env c.args.asked.now now c.ask_in.new.asked c.loop-name.index c.in-Some.name.items here
    (c.in_ok-ask_in.ensures ∙ ap (λ n. follow_fronts now (in_text (script_in env n))) c.deref.ensures.value) c.loop-name.invariant

pub returns : goal.returns
returns c =
    let now = c.loop-name.asked in
    let end = no-more now.names c.loop-name.index c.in_ok-name.field-0 c.in_ok-name.ensures.name c.in_default.not-Some in
    walks-all (asked_in (rules_in c.args.lookups.now) true) c.args.vars.now.env c.args.asked.now now c.loop-name.index end c.loop-name.invariant
