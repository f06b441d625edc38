use Rattle.std.proofs.Common.{◌≡◌, ◌==◌, length}
use Rattle.text_parts.specs.Words.{spaced, texts}
use Rattle.text_parts.proofs.cuts.joined.Given as goal

abbrev pub invariant-loop-word : goal.invariant-loop-word
invariant-loop-word g l = record {
  text : l.text.items ≡ spaced (texts l.yielded);
  first : l.is_first ≡ (length l.yielded == 0);
}
