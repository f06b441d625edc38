use Rattle.std.proofs.Common.{◌≡◌, ◌++◌, map}
use Rattle.hush_words.specs.Parts.{word_atoms}
use Rattle.fw_check.specs.Literals.{substituted}
use Rattle.fw_check.proofs.substitutions.substituted.Given as goal

abbrev pub invariant-loop-part : goal.invariant-loop-part
invariant-loop-part l = record {
  source : l.left.source ≡ l.text.source;
  read : map (λ n. n.now) l.names.items ++ substituted l.left.atoms ≡ substituted (word_atoms l.text l.fn.word);
}

abbrev pub decreases-loop-part : goal.decreases-loop-part
decreases-loop-part l = l.left.bytes
