use Rattle.std.proofs.Common.{◌≡◌, drop, map}
use Rattle.hush_words.specs.Parts.{word_atoms}
use Rattle.fw_check.specs.Literals.{substituted}
use Rattle.fw_check.specs.NameSets.{set_of, with_all}
use Rattle.fw_check.proofs.substitutions.gather_substitutions.Given as goal

abbrev pub invariant-loop-name : goal.invariant-loop-name
invariant-loop-name l =
    with_all (set_of l.set) (map (λ n. n.now) (drop l.name-index l.name-items))
    ≡ with_all (set_of l.initial.set) (substituted (word_atoms l.text l.fn.word))
