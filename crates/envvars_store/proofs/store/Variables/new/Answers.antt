use Rattle.std.proofs.Common.{ap, ◌∙◌}
use Rattle.envvars_store.specs.Runs.{listed}
use Rattle.envvars_store.proofs.MapLemmas.{env_of, env_empty}
use Rattle.envvars_store.proofs.store.Variables.new.Goals as goal

pub returns : goal.returns
returns c = ap (λ runs. env_of (listed c.new.result.items runs)) c.new-2.ensures.items ∙ env_empty
