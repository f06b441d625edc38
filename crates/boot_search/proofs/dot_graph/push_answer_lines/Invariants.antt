use Rattle.std.proofs.Common.{◌≡◌, ◌++◌, drop, map}
use Rattle.std.specs.List.{flat_map}
use Rattle.boot_search.specs.Outcomes.{given_of}
use Rattle.boot_search.specs.DotText.{answer_line}
use Rattle.boot_search.proofs.dot_graph.push_answer_lines.Given as goal

abbrev pub invariant-loop-answer : goal.invariant-loop-answer
invariant-loop-answer l =
    l.text.items ++ flat_map answer_line (map given_of (drop l.answer-index l.answers))
    ≡ l.initial.text.items ++ flat_map answer_line (map given_of l.answers)
