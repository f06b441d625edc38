use Rattle.std.proofs.Common.{◌≡◌, length}
use Rattle.hush_syntax.specs.Answers.{left_in, SameEnd, IsAt}
use Rattle.hush_syntax.specs.Grammar.{is_separator}
use Rattle.hush_syntax.specs.Reading.{skip}
use Rattle.hush_syntax.proofs.cursor.Tokens.skip_separators.Given as goal

abbrev pub invariant-loop-self : goal.invariant-loop-self
invariant-loop-self l = (skip is_separator (left_in l.text l.self) ≡ skip is_separator (left_in l.text l.initial.self)) × SameEnd l.text l.initial.self l.self × IsAt l.text l.self

abbrev pub decreases-loop-self : goal.decreases-loop-self
decreases-loop-self l = length (left_in l.text l.self)
