use Rattle.std.proofs.Common.{◌≡◌, ◌+◌, ◌≤◌, length}
use Rattle.envcfg_core.specs.Import.{entries_from}
use Rattle.envcfg_core.proofs.import.skip_to_entry.Given as goal

abbrev pub invariant-loop-first : goal.invariant-loop-first
invariant-loop-first l = record {
  same : entries_from l.place.line l.place.text.now ≡ entries_from l.rest.line l.rest.text.now;
  within : l.rest.line + length l.rest.text.now ≤ l.place.line + length l.place.text.now;
  no_longer : length l.rest.text.now ≤ length l.place.text.now;
}

abbrev pub decreases-loop-first : goal.decreases-loop-first
decreases-loop-first l = length l.rest.text.now
