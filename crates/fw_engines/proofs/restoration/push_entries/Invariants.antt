use Rattle.std.proofs.Common.{◌≡◌, ◌++◌, map, drop}
use Rattle.std.specs.List.{flat_map}
use Rattle.envcfg_core.specs.Entries.{entry_view}
use Rattle.fw_engines.specs.Restoration.{kept, write_view}
use Rattle.fw_engines.proofs.restoration.push_entries.Given as goal

abbrev pub invariant-loop-entry : goal.invariant-loop-entry
invariant-loop-entry l =
    map write_view l.writes.items ++ flat_map (kept l.flags) (map entry_view (drop l.entry-index l.entries))
    ≡ map write_view l.initial.writes.items ++ flat_map (kept l.flags) (map entry_view l.entries)
