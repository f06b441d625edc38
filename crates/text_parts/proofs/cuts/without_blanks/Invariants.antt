use Rattle.std.proofs.Common.{◌≡◌, length}
use Rattle.text_parts.specs.Bytes.{without_blanks}
use Rattle.text_parts.proofs.cuts.without_blanks.Given as goal

abbrev pub invariant-loop-first : goal.invariant-loop-first
invariant-loop-first l = without_blanks l.rest ≡ without_blanks l.text

abbrev pub decreases-loop-first : goal.decreases-loop-first
decreases-loop-first l = length l.rest
