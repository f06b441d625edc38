use Rattle.std.proofs.Common.{◌≡◌, ◌++◌, drop, map}
use Rattle.std.specs.List.{flat_map}
use Rattle.boot_search.specs.Outcomes.{given_of}
use Rattle.boot_search.specs.SurveyText.{next_answer_text}
use Rattle.boot_search.proofs.way_text.push_next_answers.Given as goal

abbrev pub invariant-loop-answer : goal.invariant-loop-answer
invariant-loop-answer l =
    l.text.items ++ flat_map next_answer_text (map given_of (drop l.answer-index l.answers))
    ≡ l.initial.text.items ++ flat_map next_answer_text (map given_of l.answers)
