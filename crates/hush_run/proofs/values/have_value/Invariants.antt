use Rattle.std.proofs.Common.{◌≡◌, length, map}
use Rattle.hush_words.specs.Parts.{word_atoms}
use Rattle.hush_run.specs.Meaning.{have_value}
use Rattle.hush_run.proofs.values.have_value.Given as goal

abbrev pub invariant-loop-word : goal.invariant-loop-word
invariant-loop-word l = have_value (map (word_atoms l.text) l.rest) ≡ have_value (map (word_atoms l.text) l.words)

abbrev pub decreases-loop-word : goal.decreases-loop-word
decreases-loop-word l = length l.rest
