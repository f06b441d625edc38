use Rattle.boot_search.proofs.CutLemmas.{cuts_reach}
use Rattle.boot_search.proofs.laws.cuts_reach.Goals as goal

pub returns : goal.returns
returns c = cuts_reach
