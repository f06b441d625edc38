use Rattle.std.proofs.Common.{◌≡◌, ◌++◌, [], drop, map}
use Rattle.fw_boots.specs.PowerOns.{exact, words_from}
use Rattle.fw_boots.proofs.question.words_in.Given as goal

abbrev pub invariant-loop-byte : goal.invariant-loop-byte
invariant-loop-byte l =
    l.words.items ++ map exact (words_from l.word.items (drop l.byte-index l.question)) ≡ map exact (words_from [] l.question)
