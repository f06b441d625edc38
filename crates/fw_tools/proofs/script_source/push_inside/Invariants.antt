use Rattle.std.proofs.Common.{◌≡◌, ◌++◌, drop}
use Rattle.std.specs.List.{flat_map}
use Rattle.fw_tools.specs.ScriptRuns.{quoted}
use Rattle.fw_tools.proofs.script_source.push_inside.Given as goal

abbrev pub invariant-loop-byte : goal.invariant-loop-byte
invariant-loop-byte l = l.text.items ++ flat_map quoted (drop l.byte-index l.name) ≡ l.initial.text.items ++ flat_map quoted l.name
