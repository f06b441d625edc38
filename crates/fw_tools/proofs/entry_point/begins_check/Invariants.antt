use Rattle.std.proofs.Common.{◌≡◌, drop, map}
use Rattle.fw_tools.specs.EntryPoint.{begins_check}
use Rattle.fw_tools.proofs.entry_point.begins_check.Given as goal

abbrev pub invariant-loop-word : goal.invariant-loop-word
invariant-loop-word g l = begins_check (map g.S.AsStr.text (drop l.word-index l.words)) ≡ begins_check (map g.S.AsStr.text l.words)
