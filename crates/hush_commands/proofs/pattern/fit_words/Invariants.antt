use Rattle.std.proofs.Common.{◌≡◌, length}
use Rattle.hush_commands.specs.Hardware.{pattern_fits}
use Rattle.hush_commands.proofs.pattern.fit_words.Given as goal

abbrev pub invariant-loop-word : goal.invariant-loop-word
invariant-loop-word l = pattern_fits l.words l.rest ≡ pattern_fits l.pattern l.fn.fields

abbrev pub decreases-loop-word : goal.decreases-loop-word
decreases-loop-word l = length l.words
