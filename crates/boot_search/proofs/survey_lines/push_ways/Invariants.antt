use Rattle.std.proofs.Common.{◌≡◌, ◌++◌, drop}
use Rattle.std.specs.List.{flat_map}
use Rattle.boot_search.specs.Reports.{steps_of}
use Rattle.boot_search.specs.SurveyText.{way_line}
use Rattle.boot_search.proofs.survey_lines.push_ways.Given as goal

abbrev pub invariant-loop-way : goal.invariant-loop-way
invariant-loop-way l =
    l.text.items ++ flat_map (way_line l.from) (steps_of (drop l.way-index l.ways)) ≡ l.initial.text.items ++ flat_map (way_line l.from) (steps_of l.ways)
