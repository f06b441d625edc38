use Rattle.std.proofs.Common.{length, ◌-◌, ◌≡◌, ◌≤◌, drop}
use Rattle.hush_words.specs.Steps.{Closes, atoms_left}
use Rattle.hush_words.proofs.walk.part_from.Given as goal

abbrev pub invariant-loop-part : goal.invariant-loop-part
invariant-loop-part l = record {
  begun : l.fn.place.at ≤ l.here.at;
  closes : Closes l.here.inside (drop l.here.at l.source);
  left : atoms_left l.here.inside (drop l.here.at l.source) ≡ atoms_left l.fn.place.inside (drop l.fn.place.at l.source);
}

abbrev pub decreases-loop-part : goal.decreases-loop-part
decreases-loop-part l = length l.source - l.here.at
