use Rattle.std.proofs.Common.{◌≡◌, drop}
use Rattle.hush_syntax.specs.Trees.{words_in}
use Rattle.std.specs.Prelude.{None, option_map}
use Rattle.fw_check.specs.Misuse.{has_lost_run}
use Rattle.fw_check.specs.Looking.{known_in}
use Rattle.fw_check.proofs.word_pairs.has_lost_run.Given as goal

abbrev pub invariant-loop-word : goal.invariant-loop-word
invariant-loop-word l =
    has_lost_run (known_in l.lookups) (option_map (λ v. v.items) l.before) (words_in l.text (drop l.word-index l.words)) ≡ has_lost_run (known_in l.lookups) None (words_in l.text l.words)
