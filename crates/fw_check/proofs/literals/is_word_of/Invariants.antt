use Rattle.std.proofs.Common.{◌≡◌, drop, map}
use Rattle.fw_check.specs.Literals.{is_word_of}
use Rattle.fw_check.proofs.literals.is_word_of.Given as goal

abbrev pub invariant-loop-text : goal.invariant-loop-text
invariant-loop-text l = is_word_of (map (λ t. t.now) (drop l.text-index l.texts)) l.word ≡ is_word_of (map (λ t. t.now) l.texts) l.word
