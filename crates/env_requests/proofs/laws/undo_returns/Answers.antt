use Rattle.env_requests.proofs.KeepLemmas.{undo_returns}
use Rattle.env_requests.proofs.laws.undo_returns.Goals as goal

pub returns : goal.returns
returns c = undo_returns
