use Rattle.envvars_core.proofs.SizeLemmas.{used-remove}
use Rattle.envvars_core.proofs.laws.size_after_removal.Goals as goal

pub returns : goal.returns
returns c = used-remove
