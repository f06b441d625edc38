use Rattle.env_requests.proofs.KeepLemmas.{marks_stand}
use Rattle.env_requests.proofs.laws.marks_stand.Goals as goal

pub returns : goal.returns
returns c = marks_stand
