use Rattle.hush_words.proofs.Told.{assignment-told}
use Rattle.hush_words.proofs.laws.assignment_is_told.Goals as goal

pub returns : goal.returns
returns c = assignment-told
