use Rattle.std.proofs.Common.{◌≡◌, take}
use Rattle.envvars_store.proofs.store.copied_run.Given as goal

abbrev pub invariant-variables : goal.invariant-variables
invariant-variables l = l.copy.items ≡ take l.variable-index l.run
