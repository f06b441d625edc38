use Rattle.std.proofs.Common.{◌≡◌, drop}
use Rattle.dump_search.specs.AreaSums.{IsSumOf}
use Rattle.dump_search.specs.Search.{copy_of_sizes}
use Rattle.dump_search.proofs.copy_search.copy_of_sizes.Given as goal

abbrev pub invariant-loop-size : goal.invariant-loop-size
invariant-loop-size l =
    (copy_of_sizes l.layout l.bytes (drop l.size-index l.sizes) ≡ copy_of_sizes l.layout l.bytes l.sizes) × IsSumOf l.sum l.layout l.bytes
