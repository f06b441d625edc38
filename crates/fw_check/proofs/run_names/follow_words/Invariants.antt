use Rattle.std.proofs.Common.{◌≡◌, drop, map}
use Rattle.hush_syntax.specs.Trees.{words_in}
use Rattle.fw_check.specs.Following.{follow_fronts}
use Rattle.fw_check.specs.Literals.{front_of}
use Rattle.fw_check.proofs.run_names.follow_words.Given as goal

abbrev pub invariant-loop-word : goal.invariant-loop-word
invariant-loop-word l =
    follow_fronts l.names (map front_of (words_in l.text (drop l.word-index l.words)))
    ≡ follow_fronts l.initial.names (map front_of (words_in l.text l.words))
