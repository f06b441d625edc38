use Rattle.std.proofs.Common.{◌≡◌, ◌≤◌, Bool, false, length}
use Rattle.hush_calc.specs.Test.{from_term}
use Rattle.hush_calc.proofs.expression.read_term.Given as goal

abbrev pub invariant-loop-word : goal.invariant-loop-word
invariant-loop-word l = record {
  value : (f : Bool → Bool) → from_term f false l.fn.words ≡ from_term f l.odd l.words;
  shorter : length l.words ≤ length l.fn.words;
}

abbrev pub decreases-loop-word : goal.decreases-loop-word
decreases-loop-word l = length l.words
