use Rattle.std.proofs.Common.{◌≡◌, ◌==◌, length}
use Rattle.hush_words.specs.Faults.{placed_tokens}
use Rattle.hush_words.specs.Reading.{lexeme_end}
use Rattle.hush_syntax.specs.Answers.{IsAt, ends_whole, left_in, placed_in}
use Rattle.hush_syntax.specs.Halts.{run, start}
use Rattle.hush_syntax.proofs.positions.Halt.of_tokens.Given as goal

abbrev pub invariant-loop-token : goal.invariant-loop-token
invariant-loop-token l =
    (run l.bodies start (placed_tokens l.text.source) ≡ run l.bodies l.position (placed_in l.text l.tokens))
    × (ends_whole l.text l.tokens ≡ (length (lexeme_end l.text.source) == 0)) × IsAt l.text l.tokens

abbrev pub decreases-loop-token : goal.decreases-loop-token
decreases-loop-token l = length (left_in l.text l.tokens)
