use Rattle.hush_words.proofs.Whole.{both-lists}
use Rattle.hush_words.proofs.laws.one_token_list.Goals as goal

pub returns : goal.returns
returns c = both-lists
