use Rattle.std.proofs.Common.{◌≡◌, drop}
use Rattle.fw_engines.specs.Ways.{are_all}
use Rattle.fw_engines.proofs.ways.are_all.Given as goal

abbrev pub invariant-loop-b : goal.invariant-loop-b
invariant-loop-b l = are_all l.byte (drop l.b-index l.bytes) ≡ are_all l.byte l.bytes
