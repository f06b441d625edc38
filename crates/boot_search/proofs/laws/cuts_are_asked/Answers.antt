use Rattle.boot_search.proofs.CutLemmas.{cuts_are_asked}
use Rattle.boot_search.proofs.laws.cuts_are_asked.Goals as goal

pub returns : goal.returns
returns c = cuts_are_asked
