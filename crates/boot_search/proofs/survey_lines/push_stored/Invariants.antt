use Rattle.std.proofs.Common.{◌≡◌, ◌++◌, drop}
use Rattle.boot_search.specs.Reports.{steps_of, texts_of}
use Rattle.boot_search.specs.SurveyText.{stored_lines}
use Rattle.boot_search.proofs.survey_lines.push_stored.Given as goal

abbrev pub invariant-loop-place : goal.invariant-loop-place
invariant-loop-place g l =
    l.text.items ++ stored_lines (g.B.Board.tells l.board) (steps_of l.ways) l.place (texts_of (drop l.place l.stored))
    ≡ l.initial.text.items ++ stored_lines (g.B.Board.tells l.board) (steps_of l.ways) 0 (texts_of l.stored)
