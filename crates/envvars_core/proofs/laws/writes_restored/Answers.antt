use Rattle.envvars_core.proofs.RestoreLemmas.{writes-restored}
use Rattle.envvars_core.proofs.laws.writes_restored.Goals as goal

pub returns : goal.returns
returns c = writes-restored
