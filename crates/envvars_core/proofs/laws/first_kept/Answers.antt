use Rattle.envvars_core.proofs.RestoreLemmas.{first-kept}
use Rattle.envvars_core.proofs.laws.first_kept.Goals as goal

pub returns : goal.returns
returns c = first-kept
