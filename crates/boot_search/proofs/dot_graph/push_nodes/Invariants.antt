use Rattle.std.proofs.Common.{◌≡◌, ◌++◌, drop}
use Rattle.boot_search.specs.Reports.{texts_of}
use Rattle.boot_search.specs.SurveyText.{told_of}
use Rattle.boot_search.specs.DotText.{node_lines}
use Rattle.boot_search.proofs.dot_graph.push_nodes.Given as goal

abbrev pub invariant-loop-place : goal.invariant-loop-place
invariant-loop-place g l =
    l.text.items ++ node_lines (g.B.Board.tells l.board) (told_of l.survey) l.place (texts_of (drop l.place l.stored))
    ≡ l.initial.text.items ++ node_lines (g.B.Board.tells l.board) (told_of l.survey) 0 (texts_of l.stored)
