use Rattle.env_session.proofs.LawLemmas.{marks_stand}
use Rattle.env_session.proofs.laws.marks_stand.Goals as goal

pub returns : goal.returns
returns c = marks_stand
