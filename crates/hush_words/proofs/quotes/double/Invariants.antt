use Rattle.std.proofs.Common.{◌≡◌, ◌≤◌, ◌-◌, ◌+◌, length, drop}
use Rattle.hush_words.specs.Steps.{inner_end}
use Rattle.hush_words.proofs.quotes.double.Given as goal

abbrev pub invariant-loop-read : goal.invariant-loop-read
invariant-loop-read l =
    (l.place + 1 ≤ l.at) × (l.at ≤ length l.source) × (inner_end (drop l.at l.source) ≡ inner_end (drop (l.place + 1) l.source))

abbrev pub decreases-loop-read : goal.decreases-loop-read
decreases-loop-read l = length l.source - l.at
