use Rattle.std.proofs.Common.{length, ◌-◌, ◌≡◌, ◌≤◌, drop}
use Rattle.hush_words.specs.Reading.{tokens_left, lexeme_end}
use Rattle.hush_words.specs.Faults.{placed_left}
use Rattle.hush_words.proofs.reading.token_from.Given as goal

abbrev pub invariant-loop-first : goal.invariant-loop-first
invariant-loop-first l = record {
  begun : l.place ≤ l.at;
  left : tokens_left (drop l.at l.source) ≡ tokens_left (drop l.place l.source);
  ends : lexeme_end (drop l.at l.source) ≡ lexeme_end (drop l.place l.source);
  places : placed_left l.at (drop l.at l.source) ≡ placed_left l.place (drop l.place l.source);
}

abbrev pub decreases-loop-first : goal.decreases-loop-first
decreases-loop-first l = length l.source - l.at
