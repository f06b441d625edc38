use Rattle.std.proofs.Common.{refl}
use Rattle.env_requests.proofs.laws.opening_is_started.Goals as goal

pub returns : goal.returns
returns c = λ shape first second defaults. refl
