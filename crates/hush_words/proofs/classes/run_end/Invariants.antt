use Rattle.std.proofs.Common.{length, ◌-◌, ◌≡◌, ◌≤◌, ◌++◌, drop, take}
use Rattle.hush_words.specs.Reading.{front, behind}
use Rattle.hush_words.specs.Steps.{passes}
use Rattle.hush_words.proofs.classes.run_end.Given as goal

abbrev pub invariant-loop-end : goal.invariant-loop-end
invariant-loop-end l =
    (l.start ≤ l.end) × (l.end ≤ length l.source) ×
    (front (passes l.class) (drop l.start l.source) ≡ take (l.end - l.start) (drop l.start l.source) ++ front (passes l.class) (drop l.end l.source)) ×
    (behind (passes l.class) (drop l.start l.source) ≡ behind (passes l.class) (drop l.end l.source))

abbrev pub decreases-loop-end : goal.decreases-loop-end
decreases-loop-end l = length l.source - l.end
