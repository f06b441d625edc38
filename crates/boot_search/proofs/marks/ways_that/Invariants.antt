use Rattle.std.proofs.Common.{◌≡◌, ◌≤◌, ◌+◌, drop}
use Rattle.boot_search.specs.Reports.{steps_of}
use Rattle.boot_search.specs.SurveyText.{ways_that}
use Rattle.boot_search.proofs.marks.ways_that.Given as goal

abbrev pub invariant-loop-way : goal.invariant-loop-way
invariant-loop-way l = record {
  few : l.count ≤ l.way-index;
  counted : l.count + ways_that l.end (steps_of (drop l.way-index l.ways)) ≡ ways_that l.end (steps_of l.ways);
}
