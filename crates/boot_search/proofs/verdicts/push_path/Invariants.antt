use Rattle.std.proofs.Common.{◌≡◌, ◌++◌, drop}
use Rattle.boot_search.specs.Reports.{steps_of}
use Rattle.boot_search.specs.SurveyText.{path_lines}
use Rattle.boot_search.proofs.verdicts.push_path.Given as goal

abbrev pub invariant-loop-place : goal.invariant-loop-place
invariant-loop-place l = l.text.items ++ path_lines (steps_of l.ways) (drop l.place-index l.path) ≡ l.initial.text.items ++ path_lines (steps_of l.ways) l.path
