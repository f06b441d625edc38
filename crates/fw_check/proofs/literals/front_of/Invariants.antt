use Rattle.std.proofs.Common.{◌≡◌}
use Rattle.hush_words.specs.Parts.{word_atoms}
use Rattle.fw_check.specs.Literals.{front_of}
use Rattle.fw_check.proofs.LiteralLemmas.{before}
use Rattle.fw_check.proofs.literals.front_of.Given as goal

abbrev pub invariant-loop-part : goal.invariant-loop-part
invariant-loop-part l = record {
  source : l.left.source ≡ l.text.source;
  read : before l.bytes.items (front_of l.left.atoms) ≡ front_of (word_atoms l.text l.fn.word);
}

abbrev pub decreases-loop-part : goal.decreases-loop-part
decreases-loop-part l = l.left.bytes
