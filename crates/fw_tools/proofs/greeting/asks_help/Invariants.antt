use Rattle.std.proofs.Common.{◌≡◌, drop, map}
use Rattle.fw_tools.specs.Greeting.{asks_help}
use Rattle.fw_tools.proofs.greeting.asks_help.Given as goal

abbrev pub invariant-loop-word : goal.invariant-loop-word
invariant-loop-word g l = asks_help (map g.S.AsStr.text (drop l.word-index l.words)) ≡ asks_help (map g.S.AsStr.text l.words)
