use Rattle.std.proofs.Common.{◌≡◌, ◌++◌, map}
use Rattle.std.specs.FinMap as env
use Rattle.fw_engines.proofs.restoration.names_of.Given as goal

abbrev pub invariant-loop-name : goal.invariant-loop-name
invariant-loop-name l = map (λ n. n.items) l.names.items ++ map (λ p. p.0) l.name-iterator ≡ map (λ p. p.0) (env.entries l.vars.env)
