use Rattle.hush_words.proofs.Whole.{tokens-found, tokens-had}
use Rattle.hush_words.proofs.laws.tokens_are_read.Goals as goal

pub returns : goal.returns
returns c = λ text tokens. (tokens-had text tokens, tokens-found text tokens)
