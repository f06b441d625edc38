use Rattle.hush_words.proofs.Told.{plain-told}
use Rattle.hush_words.proofs.laws.plain_is_told.Goals as goal

pub returns : goal.returns
returns c = plain-told
