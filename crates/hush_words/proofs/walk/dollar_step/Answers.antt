use Rattle.std.proofs.Common.{arith, drop}
use Rattle.hush_words.proofs.PieceLemmas.{piece-none}
use Rattle.hush_words.proofs.WordLemmas.{read-dollar-piece, no-dollar-piece}
use Rattle.hush_words.proofs.walk.dollar_step.Goals as goal

pub returns-in-Some : goal.returns-in-Some
returns-in-Some c =
    let r = c.in-Some.ensures.reads in
    rw c.outside.ensures (
      omega (arith, r.0),
      r.1,
      tt,
      c.in-Some.ensures.fits,
      (read-dollar-piece c.args.source.now c.args.at c.in-Some.read.end _ c.requires.here r.2).1,
    )

pub returns-in-None : goal.returns-in-None
returns-in-None c =
    (piece-none (drop c.args.at c.args.source.now) (no-dollar-piece c.args.source.now c.args.at c.requires.here c.in-None.ensures.reads)).0
