use Rattle.std.proofs.Common.{◌≡◌, ◌++◌, map}
use Rattle.hush_words.specs.Parts.{word_atoms}
use Rattle.fw_check.specs.Knowing.{reread_names}
use Rattle.fw_check.specs.Looking.{known_in}
use Rattle.fw_check.proofs.reread.reread_names.Given as goal

abbrev pub invariant-loop-part : goal.invariant-loop-part
invariant-loop-part l = record {
  source : l.left.source ≡ l.text.source;
  read : map (λ n. n.now) l.names.items ++ reread_names (known_in l.lookups) l.cut l.left.atoms ≡ reread_names (known_in l.lookups) l.cut (word_atoms l.text l.fn.word);
}

abbrev pub decreases-loop-part : goal.decreases-loop-part
decreases-loop-part l = l.left.bytes
