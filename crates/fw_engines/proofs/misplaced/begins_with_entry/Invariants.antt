use Rattle.std.proofs.Common.{◌≡◌, drop}
use Rattle.fw_engines.specs.Misplaced.{begins_with_entry, entry_from}
use Rattle.fw_engines.proofs.misplaced.begins_with_entry.Given as goal

abbrev pub invariant-loop-byte : goal.invariant-loop-byte
invariant-loop-byte l = entry_from l.named (drop l.byte-index l.area) ≡ begins_with_entry l.area
