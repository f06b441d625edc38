use Rattle.std.proofs.Common.{◌≡◌, length}
use Rattle.dump_search.specs.Search.{ends_entry}
use Rattle.dump_search.proofs.entry_front.ends_entry.Given as goal

abbrev pub invariant-loop-byte : goal.invariant-loop-byte
invariant-loop-byte l = ends_entry l.left ≡ ends_entry l.bytes

abbrev pub decreases-loop-byte : goal.decreases-loop-byte
decreases-loop-byte l = length l.left
