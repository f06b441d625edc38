use Rattle.std.proofs.Common.{◌≡◌, length}
use Rattle.dump_search.specs.Search.{ends_value}
use Rattle.dump_search.proofs.entry_front.ends_value.Given as goal

abbrev pub invariant-loop-byte : goal.invariant-loop-byte
invariant-loop-byte l = ends_value l.left ≡ ends_value l.bytes

abbrev pub decreases-loop-byte : goal.decreases-loop-byte
decreases-loop-byte l = length l.left
