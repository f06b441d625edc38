use Rattle.std.proofs.Common.{◌≡◌, ◌++◌, map}
use Rattle.fw_check.specs.Following.{names_of}
use Rattle.fw_check.proofs.sorted_names.SortedNames.of.Given as goal

abbrev pub invariant-loop-name : goal.invariant-loop-name
invariant-loop-name l = map (λ n. n.now) l.names.items ++ map (λ p. p.0) l.name-iterator ≡ names_of l.vars.env
