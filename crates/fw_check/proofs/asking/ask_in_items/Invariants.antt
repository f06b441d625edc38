use Rattle.std.proofs.Common.{◌≡◌, drop, map}
use Rattle.std.specs.List.{flat_map}
use Rattle.fw_check.specs.Following.{follow_fronts}
use Rattle.fw_check.specs.Looking.{rules_in}
use Rattle.fw_check.specs.Naming.{asked_fronts}
use Rattle.fw_check.specs.Statements.{statement_of}
use Rattle.fw_check.proofs.asking.ask_in_items.Given as goal

abbrev pub invariant-loop-item : goal.invariant-loop-item
invariant-loop-item l =
    follow_fronts l.asked (flat_map (asked_fronts (rules_in l.lookups)) (map (statement_of l.text) (drop l.item-index l.items)))
    ≡ follow_fronts l.initial.asked (flat_map (asked_fronts (rules_in l.lookups)) (map (statement_of l.text) l.items))
