use Rattle.hush_calc.proofs.WrittenLemmas.{expressions-written}
use Rattle.hush_calc.proofs.laws.expressions_are_written.Goals as goal

pub returns : goal.returns
returns c = expressions-written
