use Rattle.std.proofs.Common.{◌≡◌}
use Rattle.std.specs.List.{list_any}
use Rattle.hush_words.specs.Parts.{word_atoms}
use Rattle.hush_run.specs.Meaning.{is_value}
use Rattle.hush_run.proofs.values.has_value.Given as goal

abbrev pub invariant-loop-part : goal.invariant-loop-part
invariant-loop-part l = record {
  source : l.parts.source ≡ l.text.source;
  left : list_any is_value l.parts.atoms ≡ list_any is_value (word_atoms l.text l.fn.word);
}

abbrev pub decreases-loop-part : goal.decreases-loop-part
decreases-loop-part l = l.parts.bytes
