use Rattle.std.proofs.Common.{◌≡◌, drop}
use Rattle.fw_engines.specs.Ways.{in_some_size}
use Rattle.fw_engines.proofs.ways.in_some_size.Given as goal

abbrev pub invariant-loop-size : goal.invariant-loop-size
invariant-loop-size l = in_some_size l.bytes l.layout l.order (drop l.size-index l.sizes) ≡ in_some_size l.bytes l.layout l.order l.sizes
