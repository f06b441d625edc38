use Rattle.std.proofs.Common.{◌≡◌, ◌++◌, map, drop}
use Rattle.fw_engines.specs.Restoration.{deletion, write_view}
use Rattle.fw_engines.proofs.restoration.writes_of.Given as goal

abbrev pub invariant-loop-name : goal.invariant-loop-name
invariant-loop-name l = map write_view l.writes.items ++ map deletion (map (λ n. n.items) (drop l.name-index l.names)) ≡ map deletion (map (λ n. n.items) l.names)
