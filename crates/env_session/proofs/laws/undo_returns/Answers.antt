use Rattle.env_session.proofs.LawLemmas.{undo_returns}
use Rattle.env_session.proofs.laws.undo_returns.Goals as goal

pub returns : goal.returns
returns c = undo_returns
