use Rattle.std.proofs.Common.{◌≡◌, take, All}
use Rattle.envvars_store.specs.Runs.{flat, IsFilled}
use Rattle.envvars_store.proofs.store.copied_runs.Given as goal

abbrev pub invariant-runs : goal.invariant-runs
invariant-runs l = record { same : flat l.copy.items ≡ flat (take l.run-index l.runs); filled : All IsFilled l.copy.items }
