use Rattle.std.proofs.Common.{◌<◌, length, map}
use Rattle.boot_search.specs.Reports.{step_of, LeadsTo}
use Rattle.boot_search.proofs.paths.path_to.Given as goal

abbrev pub invariant-loop-at : goal.invariant-loop-at
invariant-loop-at l = record {
  within : l.at < length l.report.stored.items;
  leads : LeadsTo (map step_of l.report.ways.items) l.at l.path.items l.place;
}

abbrev pub decreases-loop-at : goal.decreases-loop-at
decreases-loop-at l = l.at
