use Rattle.std.proofs.Common.{◌≡◌, Some}
use Rattle.hush_words.specs.Parts.{word_atoms}
use Rattle.fw_check.specs.Knowing.{joined, text_of}
use Rattle.fw_check.specs.Looking.{known_in}
use Rattle.fw_check.proofs.constants.text_of.Given as goal

abbrev pub invariant-loop-part : goal.invariant-loop-part
invariant-loop-part l = record {
  source : l.left.source ≡ l.text.source;
  read : joined (Some l.bytes.items) (text_of (known_in l.lookups) l.left.atoms) ≡ text_of (known_in l.lookups) (word_atoms l.text l.fn.word);
}

abbrev pub decreases-loop-part : goal.decreases-loop-part
decreases-loop-part l = l.left.bytes
