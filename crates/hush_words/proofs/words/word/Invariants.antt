use Rattle.std.proofs.Common.{length, ◌-◌, ◌≡◌, ◌≤◌, drop, not, true}
use Rattle.hush_words.specs.Words.{is_bare, next}
use Rattle.hush_words.specs.Reading.{piece_end}
use Rattle.hush_words.proofs.words.word.Given as goal

abbrev pub invariant-loop-end : goal.invariant-loop-end
invariant-loop-end l = record {
  begun : l.start ≤ l.at;
  within : l.at ≤ length l.source;
  ends : piece_end (drop l.at l.source) ≡ piece_end (drop l.start l.source);
  behind : next (λ b. not (is_bare b)) (drop l.at l.source) ≡ true;
}

abbrev pub decreases-loop-end : goal.decreases-loop-end
decreases-loop-end l = length l.source - l.at
