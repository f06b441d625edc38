use Rattle.std.proofs.Common.{◌≡◌, ◌++◌, drop, map}
use Rattle.std.specs.List.{flat_map}
use Rattle.fw_tools.specs.ScriptRuns.{quoted_name, starts}
use Rattle.fw_tools.proofs.script_source.starts.Given as goal

abbrev pub invariant-loop-name : goal.invariant-loop-name
invariant-loop-name l = l.text.items ++ flat_map quoted_name (map (λ n. n.now) (drop l.name-index l.names)) ≡ starts (map (λ n. n.now) l.names)
