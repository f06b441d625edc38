use Rattle.boot_search.proofs.CutLemmas.{ends_at_once}
use Rattle.boot_search.proofs.laws.ends_at_once.Goals as goal

pub returns : goal.returns
returns c = ends_at_once
