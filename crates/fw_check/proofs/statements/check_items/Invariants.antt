use Rattle.std.proofs.Common.{◌≡◌, drop}
use Rattle.std.specs.List.{flat_map}
use Rattle.fw_check.specs.Findings.{item_findings}
use Rattle.fw_check.specs.Found.{found_more}
use Rattle.fw_check.specs.Looking.{known_in, rules_in}
use Rattle.fw_check.proofs.statements.check_items.Given as goal

abbrev pub invariant-loop-item : goal.invariant-loop-item
invariant-loop-item l =
    found_more l.findings (flat_map (item_findings (known_in l.lookups) (rules_in l.lookups) l.text) (drop l.item-index l.items))
    ≡ found_more l.initial.findings (flat_map (item_findings (known_in l.lookups) (rules_in l.lookups) l.text) l.items)
