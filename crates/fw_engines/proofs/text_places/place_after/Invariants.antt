use Rattle.std.proofs.Common.{◌≡◌, ◌+◌, ◌≤◌, drop}
use Rattle.fw_engines.specs.TextPlaces.{after_bytes}
use Rattle.fw_engines.proofs.text_places.place_after.Given as goal

abbrev pub invariant-loop-byte : goal.invariant-loop-byte
invariant-loop-byte l = record {
  place : after_bytes l.place (drop l.byte-index l.bytes) ≡ after_bytes l.fn.first l.bytes;
  bound : l.place.line + l.place.column ≤ l.count + l.byte-index + 2;
  least : 1 ≤ l.place.column;
}
