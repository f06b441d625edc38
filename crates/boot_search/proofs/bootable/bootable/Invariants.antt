use Rattle.std.proofs.Common.{◌≡◌, length, map}
use Rattle.boot_search.specs.Reports.{step_of}
use Rattle.boot_search.specs.Bootable.{AreBootable, unmarked}
use Rattle.boot_search.proofs.bootable.bootable.Given as goal

abbrev pub invariant-loop : goal.invariant-loop
invariant-loop l = record {
  long : length l.marks.items ≡ l.count;
  boots : AreBootable l.unknown (map step_of l.ways) l.marks.items;
}

abbrev pub decreases-loop : goal.decreases-loop
decreases-loop l = unmarked l.marks.items
