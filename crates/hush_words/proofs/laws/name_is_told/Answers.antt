use Rattle.hush_words.proofs.Told.{name-told}
use Rattle.hush_words.proofs.laws.name_is_told.Goals as goal

pub returns : goal.returns
returns c = name-told
