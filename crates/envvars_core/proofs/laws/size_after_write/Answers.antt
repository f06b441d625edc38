use Rattle.std.proofs.Common.{arith}
use Rattle.envvars_core.specs.Refusals.{given}
use Rattle.envvars_core.proofs.SizeLemmas.{used-remove, used-with_value}
use Rattle.envvars_core.proofs.laws.size_after_write.Goals as goal

pub returns : goal.returns
returns c = λ m n new. omega (arith, used-with_value m n (given new), used-remove m n)
