use Rattle.hush_calc.proofs.LawLemmas.{reads-back}
use Rattle.hush_calc.proofs.laws.hexadecimal_reads_back.Goals as goal

pub returns : goal.returns
returns c = reads-back
