use Rattle.std.proofs.Common.{◌≡◌, ◌+◌, drop, false}
use Rattle.fw_check.specs.EntryPlaces.{spelled_length}
use Rattle.fw_check.proofs.entry_places.spelled_length.Given as goal

abbrev pub invariant-loop-byte : goal.invariant-loop-byte
invariant-loop-byte l = record {
  far : l.length ≡ l.byte-index;
  value : l.length + spelled_length l.escaped l.left (drop l.byte-index l.text) ≡ spelled_length false l.fn.count l.text;
}
