use Rattle.std.proofs.Common.{◌≡◌, ◌++◌, length}
use Rattle.hush_commands.specs.StandInLines.{words_of}
use Rattle.board_file.specs.Patterns.{pattern_words}
use Rattle.board_file.proofs.patterns.read_words.Given as goal

abbrev pub invariant-loop-word : goal.invariant-loop-word
invariant-loop-word l = l.words.items ++ pattern_words (words_of l.rest) ≡ pattern_words (words_of l.text)

abbrev pub decreases-loop-word : goal.decreases-loop-word
decreases-loop-word l = length (words_of l.rest)
