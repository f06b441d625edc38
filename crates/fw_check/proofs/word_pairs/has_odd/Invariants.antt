use Rattle.std.proofs.Common.{◌≡◌, drop}
use Rattle.hush_syntax.specs.Trees.{words_in}
use Rattle.std.specs.Prelude.{None, option_map}
use Rattle.fw_check.specs.Misuse.{has_odd}
use Rattle.fw_check.proofs.word_pairs.has_odd.Given as goal

abbrev pub invariant-loop-word : goal.invariant-loop-word
invariant-loop-word l =
    has_odd (option_map (λ v. v.items) l.before) (words_in l.text (drop l.word-index l.words)) ≡ has_odd None (words_in l.text l.words)
