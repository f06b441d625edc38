use Rattle.std.proofs.Common.{ap, sym, ◌∙◌}
use Rattle.std.specs.Prelude.{option_map}
use Rattle.fw_check.specs.Checking.{script_in}
use Rattle.fw_check.specs.Following.{follow_fronts}
use Rattle.fw_check.specs.Looking.{rules_in}
use Rattle.fw_check.specs.NameSets.{set_of, with_all}
use Rattle.fw_check.specs.Naming.{foreseen_in, given_in, run_in, written_in}
use Rattle.fw_check.proofs.VisitLemmas.{follows-none, follows-next, foreseen-all, given-all, no-more, visited-all, written-all}
use Rattle.fw_check.proofs.reading.follow_all.Goals as goal

pub loop-name-init : goal.loop-name-init
loop-name-init c =
    follows-none (rules_in c.args.lookups.now) c.args.vars.now.env c.args.names.now (set_of c.args.gathered.now.given) (set_of c.args.gathered.now.foreseen) (set_of c.args.gathered.now.written) c.requires

pub loop-name-preserved : goal.loop-name-preserved
loop-name-preserved c =
    let env = c.args.vars.now.env in
    let names = c.loop-name.names in
    let given = set_of c.loop-name.gathered.given in
    let foreseen = set_of c.loop-name.gathered.foreseen in
    let written = set_of c.loop-name.gathered.written in
    let gathered = c.follow_variable.new.gathered in
    let here = sym c.in_ok-name.ensures.name ∙ ap (option_map (λ v. v.items)) c.in-Some.is in
    let named = c.deref.ensures.value in
    follows-next (rules_in c.args.lookups.now) env c.args.names.now names c.follow_variable.new.names c.loop-name.index c.in-Some.name.items c.loop-name.invariant.same here
    (c.in_ok-follow_variable.ensures.names ∙ ap (λ n. follow_fronts names (run_in (rules_in c.args.lookups.now) (script_in env n))) named)
    (set_of c.args.gathered.now.given) (set_of c.args.gathered.now.foreseen) (set_of c.args.gathered.now.written) given foreseen written (set_of gathered.given) (set_of gathered.foreseen) (set_of gathered.written) c.loop-name.invariant
    (c.in_ok-follow_variable.ensures.given ∙ ap (λ n. with_all given (given_in (rules_in c.args.lookups.now) (script_in env n))) named)
    (c.in_ok-follow_variable.ensures.foreseen ∙ ap (λ n. with_all foreseen (foreseen_in (rules_in c.args.lookups.now) (script_in env n))) named)
    (c.in_ok-follow_variable.ensures.written ∙ ap (λ n. with_all written (written_in (rules_in c.args.lookups.now) (script_in env n))) named)

pub returns-clause-visited : goal.returns-clause-visited
returns-clause-visited c =
    let now = c.loop-name.names in
    let gathered = c.loop-name.gathered in
    let end = no-more now.names c.loop-name.index c.in_ok-name.field-0 c.in_ok-name.ensures.name c.in_default.not-Some in
    visited-all (rules_in c.args.lookups.now) c.args.vars.now.env c.args.names.now now c.loop-name.index end (set_of c.args.gathered.now.given) (set_of c.args.gathered.now.foreseen)
    (set_of c.args.gathered.now.written) (set_of gathered.given) (set_of gathered.foreseen) (set_of gathered.written) c.loop-name.invariant

pub returns-clause-given : goal.returns-clause-given
returns-clause-given c =
    let now = c.loop-name.names in
    let gathered = c.loop-name.gathered in
    let end = no-more now.names c.loop-name.index c.in_ok-name.field-0 c.in_ok-name.ensures.name c.in_default.not-Some in
    given-all (rules_in c.args.lookups.now) c.args.vars.now.env c.args.names.now now c.loop-name.index end (set_of c.args.gathered.now.given) (set_of c.args.gathered.now.foreseen)
    (set_of c.args.gathered.now.written) (set_of gathered.given) (set_of gathered.foreseen) (set_of gathered.written) c.loop-name.invariant

pub returns-clause-foreseen : goal.returns-clause-foreseen
returns-clause-foreseen c =
    let now = c.loop-name.names in
    let gathered = c.loop-name.gathered in
    let end = no-more now.names c.loop-name.index c.in_ok-name.field-0 c.in_ok-name.ensures.name c.in_default.not-Some in
    foreseen-all (rules_in c.args.lookups.now) c.args.vars.now.env c.args.names.now now c.loop-name.index end (set_of c.args.gathered.now.given) (set_of c.args.gathered.now.foreseen)
    (set_of c.args.gathered.now.written) (set_of gathered.given) (set_of gathered.foreseen) (set_of gathered.written) c.loop-name.invariant

pub returns-clause-written : goal.returns-clause-written
returns-clause-written c =
    let now = c.loop-name.names in
    let gathered = c.loop-name.gathered in
    let end = no-more now.names c.loop-name.index c.in_ok-name.field-0 c.in_ok-name.ensures.name c.in_default.not-Some in
    written-all (rules_in c.args.lookups.now) c.args.vars.now.env c.args.names.now now c.loop-name.index end (set_of c.args.gathered.now.given) (set_of c.args.gathered.now.foreseen)
    (set_of c.args.gathered.now.written) (set_of gathered.given) (set_of gathered.foreseen) (set_of gathered.written) c.loop-name.invariant
