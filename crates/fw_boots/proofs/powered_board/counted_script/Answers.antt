use Rattle.std.proofs.Common.{◌≡◌, rules}
use Rattle.env_session.specs.Session.{undone}
use Rattle.fw_boots.proofs.PowerLemmas.{count_again, counted_is}
use Rattle.fw_boots.proofs.powered_board.counted_script.Goals as goal

pub returns-clause-script : goal.returns-clause-script
returns-clause-script c =
    let undoes : c.undo.new.self ≡ undone 0 c.args.session.now = search rules in
    counted_is c.read_text.result _ _ _ _ _ _ _ _ undoes c.run_in-course.ensures.runs c.in_ok-text.ensures c.read_text.ensures

pub returns-clause-same : goal.returns-clause-same
returns-clause-same c =
    let undoes : c.undo.new.self ≡ undone 0 c.args.session.now = search rules in
    count_again c.read_text.result _ _ _ _ _ _ _ _ undoes c.run_in-course.ensures.runs c.in_ok-text.ensures
