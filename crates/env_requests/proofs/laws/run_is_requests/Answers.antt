use Rattle.env_requests.proofs.RunRequests.{run_is_requests}
use Rattle.env_requests.proofs.laws.run_is_requests.Goals as goal

pub returns : goal.returns
returns c = run_is_requests
