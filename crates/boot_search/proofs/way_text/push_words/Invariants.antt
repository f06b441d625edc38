use Rattle.std.proofs.Common.{◌≡◌, ◌++◌, drop}
use Rattle.boot_search.specs.SurveyText.{words_text}
use Rattle.boot_search.proofs.way_text.push_words.Given as goal

abbrev pub invariant-loop-index : goal.invariant-loop-index
invariant-loop-index l = l.text.items ++ words_text (drop l.index l.words) ≡ l.initial.text.items ++ words_text l.words
