use Rattle.std.proofs.Common.{length, ◌-◌, ◌≤◌, ◌≡◌, List, ℕ, false}
use Rattle.hush_words.specs.Parts.{range_bytes}
use Rattle.hush_words.specs.Views.{equals_place}
use Rattle.hush_words.specs.Steps.{ReadsPlain, GoesOn}
use Rattle.hush_words.proofs.forms.name_from.Given as goal

abbrev pub invariant-loop-next : goal.invariant-loop-next
invariant-loop-next l =
    (l.start ≤ l.here.at) × (equals_place l.source l.start ≡ equals_place l.source l.here.at) ×
    (bytes : List ℕ) × ReadsPlain (range_bytes l.source l.start l.here.at) bytes × GoesOn false bytes l.here.begun

abbrev pub decreases-loop-next : goal.decreases-loop-next
decreases-loop-next l = length l.source - l.here.at
