use Rattle.fw_check.specs.Looking.{known_in, rules_in}
use Rattle.hush_syntax.specs.Grammar.{SpellsIn}
use Rattle.hush_syntax.specs.Halts.{fault_in}
use Rattle.hush_syntax.specs.Scripts.{source_of, tree_of}
use Rattle.std.proofs.Common.{◌≡◌, Some, subst, ◌∙◌}
use Rattle.fw_check.proofs.VisitLemmas.{read-script, read-fault}
use Rattle.fw_check.proofs.script_check.check_reading.Goals as goal

pub check_parsed-requires : goal.check_parsed-requires
check_parsed-requires c = subst (λ b. SpellsIn b (tree_of c.in-Ok.script) (source_of c.in-Ok.script)) c.bodies_of-bodies.ensures c.in-Ok.ensures.spelled

pub returns-in-Ok : goal.returns-in-Ok
returns-in-Ok c =
    let l = c.args.lookups.now in
    read-script (known_in l) (rules_in l) c.args.asked c.check_parsed.result (source_of c.in-Ok.script) c.args.text.now c.args.found.now c.check_parsed.new.found
    (c.in-Ok.ensures.kept ∙ c.in_ok-source.ensures.items) c.check_parsed.ensures

pub add_fault-requires : goal.add_fault-requires
add_fault-requires c = λ known. subst (λ t. fault_in c.bodies_of-bodies.result t ≡ Some c.in-Err.fault) c.in_ok-source.ensures.items (c.in-Err.ensures.exact known)

pub returns-in-Err : goal.returns-in-Err
returns-in-Err c =
    let l = c.args.lookups.now in
    read-fault (known_in l) (rules_in l) c.args.asked c.add_fault.result c.in_ok-source.source.items c.args.text.now c.bodies_of-bodies.result c.in-Err.fault c.args.found.now c.add_fault.new.found
    c.in_ok-source.ensures.items c.bodies_of-bodies.ensures c.in-Err.ensures.unread c.add_fault.ensures
