use Rattle.hush_words.proofs.Inners.{end-stops}
use Rattle.hush_words.proofs.quotes.inner.Goals as goal

pub returns-in-None-clause-reads : goal.returns-in-None-clause-reads
returns-in-None-clause-reads c = end-stops c.args.source.now c.args.at c.in-None.ensures
