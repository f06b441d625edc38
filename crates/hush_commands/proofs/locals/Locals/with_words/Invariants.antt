use Rattle.std.proofs.Common.{◌≡◌, length}
use Rattle.hush_commands.specs.Hardware.{bound_from, with_words}
use Rattle.hush_commands.proofs.locals.Locals.with_words.Given as goal

abbrev pub invariant-loop-word : goal.invariant-loop-word
invariant-loop-word l = bound_from l.number l.locals l.rest ≡ with_words l.self l.fn.words

abbrev pub decreases-loop-word : goal.decreases-loop-word
decreases-loop-word l = length l.rest
