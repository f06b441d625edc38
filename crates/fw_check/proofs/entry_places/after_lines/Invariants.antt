use Rattle.std.proofs.Common.{◌≡◌, ◌-◌}
use Rattle.fw_check.specs.EntryPlaces.{after_lines}
use Rattle.fw_check.proofs.entry_places.after_lines.Given as goal

abbrev pub invariant-loop : goal.invariant-loop
invariant-loop l = after_lines (l.count - l.counter) l.rest ≡ after_lines l.count l.text
