use Rattle.std.proofs.Common.{◌≡◌, ◌++◌}
use Rattle.std.specs.List.{flat_map}
use Rattle.std.specs.FinMap as map
use Rattle.fw_boots.specs.Boots.{changed_line}
use Rattle.fw_boots.proofs.changes.push_changed.Given as goal

abbrev pub invariant-loop-name : goal.invariant-loop-name
invariant-loop-name l =
    l.text.items ++ flat_map (changed_line l.first.env) l.name-iterator
    ≡ l.initial.text.items ++ flat_map (changed_line l.first.env) (map.entries l.now.env)
