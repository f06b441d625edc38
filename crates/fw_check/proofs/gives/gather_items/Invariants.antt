use Rattle.std.proofs.Common.{◌≡◌, drop, map}
use Rattle.std.specs.List.{flat_map}
use Rattle.fw_check.specs.Looking.{rules_in}
use Rattle.fw_check.specs.NameSets.{set_of, with_all}
use Rattle.fw_check.specs.Naming.{foreseen_names, given_names, written_names}
use Rattle.fw_check.specs.Statements.{statement_of}
use Rattle.fw_check.proofs.gives.gather_items.Given as goal

abbrev pub invariant-loop-item : goal.invariant-loop-item
invariant-loop-item l = record {
  given :
      with_all (set_of l.names.given) (flat_map (given_names (rules_in l.lookups)) (map (statement_of l.text) (drop l.item-index l.items)))
      ≡ with_all (set_of l.initial.names.given) (flat_map (given_names (rules_in l.lookups)) (map (statement_of l.text) l.items));
  foreseen :
      with_all (set_of l.names.foreseen) (flat_map (foreseen_names (rules_in l.lookups)) (map (statement_of l.text) (drop l.item-index l.items)))
      ≡ with_all (set_of l.initial.names.foreseen) (flat_map (foreseen_names (rules_in l.lookups)) (map (statement_of l.text) l.items));
  written :
      with_all (set_of l.names.written) (flat_map (written_names (rules_in l.lookups)) (map (statement_of l.text) (drop l.item-index l.items)))
      ≡ with_all (set_of l.initial.names.written) (flat_map (written_names (rules_in l.lookups)) (map (statement_of l.text) l.items));
}
