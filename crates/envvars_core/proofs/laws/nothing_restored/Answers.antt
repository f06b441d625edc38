use Rattle.envvars_core.proofs.RestoreLemmas.{restored-empty}
use Rattle.envvars_core.proofs.laws.nothing_restored.Goals as goal

pub returns : goal.returns
returns c = restored-empty
