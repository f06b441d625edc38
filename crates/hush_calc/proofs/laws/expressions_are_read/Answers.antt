use Rattle.hush_calc.proofs.ExpressionLemmas.{expressions-read}
use Rattle.hush_calc.proofs.laws.expressions_are_read.Goals as goal

pub returns : goal.returns
returns c = expressions-read
