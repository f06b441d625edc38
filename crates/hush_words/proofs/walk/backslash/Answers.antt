use Rattle.std.proofs.Common.{drop}
use Rattle.hush_words.proofs.PieceLemmas.{piece-none}
use Rattle.hush_words.proofs.WordLemmas.{escape-last}
use Rattle.hush_words.proofs.walk.backslash.Goals as goal

pub returns-in-None : goal.returns-in-None
returns-in-None c =
    (piece-none (drop c.args.at c.args.source.now) (escape-last c.args.source.now c.args.at c.requires.here c.in-None.ensures)).0
