use Rattle.std.proofs.Common.{map, take}
use Rattle.boot_search.specs.Reports.{step_of}
use Rattle.boot_search.proofs.BootableLemmas.{Passing}
use Rattle.boot_search.proofs.bootable.pass.Given as goal

abbrev pub invariant-loop-way : goal.invariant-loop-way
invariant-loop-way l = Passing l.unknown (map step_of l.ways) l.initial.marks (map step_of (take l.way-index l.ways)) l.marks l.changed
