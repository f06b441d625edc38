use Rattle.std.proofs.Common.{◌≡◌, ◌≤◌, ◌+◌, drop}
use Rattle.boot_search.specs.Bootable.{unmarked}
use Rattle.boot_search.proofs.marks.unmarked.Given as goal

abbrev pub invariant-loop-mark : goal.invariant-loop-mark
invariant-loop-mark l = record {
  few : l.count ≤ l.mark-index;
  counted : l.count + unmarked (drop l.mark-index l.marks) ≡ unmarked l.marks;
}
