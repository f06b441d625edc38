use Rattle.std.proofs.Common.{◌≡◌, drop, map}
use Rattle.std.specs.List.{fold}
use Rattle.envcfg_core.specs.Entries.{entry_view}
use Rattle.fw_check.specs.EntryPlaces.{line_with, lines_before}
use Rattle.fw_check.proofs.entry_places.lines_before.Given as goal

abbrev pub invariant-loop-entry : goal.invariant-loop-entry
invariant-loop-entry l = fold (line_with l.name) l.before (map entry_view (drop l.entry-index l.entries)) ≡ lines_before (map entry_view l.entries) l.name
