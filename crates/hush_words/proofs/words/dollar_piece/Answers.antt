use Rattle.std.proofs.Common.{arith}
use Rattle.hush_words.proofs.WordLemmas.{read-dollar-piece, no-dollar-piece}
use Rattle.hush_words.proofs.FaultLemmas.{dollar-stops}
use Rattle.hush_words.proofs.words.dollar_piece.Goals as goal

pub returns-in-Some : goal.returns-in-Some
returns-in-Some c = (
  omega (arith, c.in-Some.ensures.reads.0),
  c.in-Some.ensures.reads.1,
  (read-dollar-piece c.args.source.now c.args.at c.in-Some.read.end _ c.requires.here c.in-Some.ensures.reads.2).0,
)

pub returns-in-None : goal.returns-in-None
returns-in-None c = (no-dollar-piece c.args.source.now c.args.at c.requires.here c.in-None.ensures.reads, dollar-stops c.args.source.now c.args.at c.requires.here)
