use Rattle.std.proofs.Common.{◌≡◌}
use Rattle.std.specs.List.{list_any}
use Rattle.hush_words.specs.Parts.{word_atoms}
use Rattle.fw_check.specs.Literals.{is_shown}
use Rattle.fw_check.proofs.literals.has_status.Given as goal

abbrev pub invariant-loop-part : goal.invariant-loop-part
invariant-loop-part l = record {
  source : l.left.source ≡ l.text.source;
  read : list_any is_shown l.left.atoms ≡ list_any is_shown (word_atoms l.text l.fn.word);
}

abbrev pub decreases-loop-part : goal.decreases-loop-part
decreases-loop-part l = l.left.bytes
