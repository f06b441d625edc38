use Rattle.env_requests.proofs.ReturnLemmas.{all_undos_return}
use Rattle.env_requests.proofs.laws.all_undos_return.Goals as goal

pub returns : goal.returns
returns c = all_undos_return
