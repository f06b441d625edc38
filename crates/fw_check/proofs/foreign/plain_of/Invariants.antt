use Rattle.std.proofs.Common.{◌≡◌, ◌++◌}
use Rattle.hush_words.specs.Parts.{word_atoms}
use Rattle.fw_check.specs.Foreign.{plain_of}
use Rattle.fw_check.proofs.foreign.plain_of.Given as goal

abbrev pub invariant-loop-part : goal.invariant-loop-part
invariant-loop-part l = record {
  source : l.left.source ≡ l.text.source;
  read : l.plain.items ++ plain_of l.left.atoms ≡ plain_of (word_atoms l.text l.fn.word);
}

abbrev pub decreases-loop-part : goal.decreases-loop-part
decreases-loop-part l = l.left.bytes
