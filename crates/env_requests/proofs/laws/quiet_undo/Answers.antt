use Rattle.env_requests.proofs.KeepLemmas.{quiet_undo}
use Rattle.env_requests.proofs.laws.quiet_undo.Goals as goal

pub returns : goal.returns
returns c = quiet_undo
