use Rattle.hush_words.proofs.Whole.{front-told}
use Rattle.hush_words.proofs.laws.front_is_read.Goals as goal

pub returns : goal.returns
returns c = front-told
