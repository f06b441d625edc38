use Rattle.fw_check.specs.Looking.{known_in, rules_in}
use Rattle.fw_check.specs.Origins.{origin_view}
use Rattle.fw_check.proofs.VisitLemmas.{script-checked}
use Rattle.fw_check.proofs.script_check.check_script.Goals as goal

pub returns : goal.returns
returns c =
    let l = c.args.lookups.now in
    script-checked (known_in l) (rules_in l) c.args.asked (origin_view c.args.origin) c.args.text.now c.args.report c.add_script.new.self c.report.result c.new-found.result c.add_return.new.self c.add_stored.new.self c.check_reading.new.found
    c.add_script.ensures c.new-found.ensures c.in_ok-add_return.ensures c.in_ok-add_stored.ensures c.in_ok-check_reading.ensures c.report.ensures
