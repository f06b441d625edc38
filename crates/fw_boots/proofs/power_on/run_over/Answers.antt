use Rattle.std.proofs.Common.{rules as allowed, ◌≡◌, ap, map}
use Rattle.env_session.specs.Session.{undone}
use Rattle.env_requests.specs.Views.{rules_of}
use Rattle.run_limits.specs.Limits.{Bounds}
use Rattle.boot_search.specs.Outcomes.{given_of}
use Rattle.fw_boots.specs.Cuts.{cutting_of}
use Rattle.fw_boots.proofs.PowerLemmas.{run_is, same_again}
use Rattle.fw_boots.proofs.power_on.run_over.Goals as goal

pub returns-clause-turn : goal.returns-clause-turn
returns-clause-turn c =
    let undoes : c.undo.new.self ≡ undone 0 c.args.session.now = search allowed in
    let rules = rules_of c.args.rules in
    let limited = ap (λ (l : Bounds). record rules { limits = l }) c.limits_with-limits.ensures in
    run_is (cutting_of c.args.cuts) (map given_of c.args.answers.now) c.turn_of.result _ _ rules _ _ _ _ _ _ _ limited undoes c.run_in-course.ensures.runs c.run_in-course.ensures.departure c.stored_in.ensures c.turn_of.ensures

pub returns-clause-same : goal.returns-clause-same
returns-clause-same c =
    let undoes : c.undo.new.self ≡ undone 0 c.args.session.now = search allowed in
    same_again c.turn_of.result _ _ _ _ _ _ _ _ undoes c.run_in-course.ensures.runs c.turn_of.ensures
