use Rattle.std.proofs.Common.{◌≡◌}
use Rattle.hush_words.specs.Forms.{is_plain}
use Rattle.hush_words.proofs.forms.are_plain.Given as goal

abbrev pub invariant-loop-part : goal.invariant-loop-part
invariant-loop-part l = (l.left.source ≡ l.source) × (is_plain l.rest l.left.atoms ≡ is_plain l.text l.fn.parts.atoms)

abbrev pub decreases-loop-part : goal.decreases-loop-part
decreases-loop-part l = l.left.bytes
