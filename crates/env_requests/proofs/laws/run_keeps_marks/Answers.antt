use Rattle.env_requests.proofs.RunRequests.{run_keeps_marks}
use Rattle.env_requests.proofs.laws.run_keeps_marks.Goals as goal

pub returns : goal.returns
returns c = run_keeps_marks
