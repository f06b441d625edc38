use Rattle.std.proofs.Common.{◌≡◌, drop}
use Rattle.std.specs.List.{flat_map}
use Rattle.hush_syntax.specs.Trees.{words_in}
use Rattle.fw_check.specs.Literals.{substituted}
use Rattle.fw_check.specs.NameSets.{set_of, with_all}
use Rattle.fw_check.proofs.foreseen.foresee_tested.Given as goal

abbrev pub invariant-loop-word : goal.invariant-loop-word
invariant-loop-word l =
    with_all (set_of l.foreseen) (flat_map substituted (words_in l.text (drop l.word-index l.words)))
    ≡ with_all (set_of l.initial.foreseen) (flat_map substituted (words_in l.text l.words))
