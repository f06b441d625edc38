use Rattle.envimg_core.specs.Pieces.{entries_of}
use Rattle.envimg_core.proofs.LawLemmas.{last_decides}
use Rattle.envimg_core.proofs.laws.last_entry_decides.Goals as goal

pub returns : goal.returns
returns c area name = last_decides (entries_of area) name
