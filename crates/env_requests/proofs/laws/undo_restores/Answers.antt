use Rattle.env_requests.proofs.KeepLemmas.{undo_restores}
use Rattle.env_requests.proofs.laws.undo_restores.Goals as goal

pub returns : goal.returns
returns c = undo_restores
