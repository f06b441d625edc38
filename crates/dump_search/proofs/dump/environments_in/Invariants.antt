use Rattle.std.proofs.Common.{◌≡◌, ◌++◌, ◌-◌, length}
use Rattle.dump_search.specs.Search.{environments, found_from, places_from}
use Rattle.dump_search.proofs.dump.environments_in.Given as goal

abbrev pub invariant-loop-start : goal.invariant-loop-start
invariant-loop-start l = l.found.items ++ found_from (places_from l.start l.dump) l.start l.dump ≡ environments l.dump

abbrev pub decreases-loop-start : goal.decreases-loop-start
decreases-loop-start l = length l.dump - l.start
