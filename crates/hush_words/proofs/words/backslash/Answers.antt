use Rattle.std.proofs.Common.{arith}
use Rattle.hush_words.proofs.WordLemmas.{escape-ends, escape-last}
use Rattle.hush_words.proofs.FaultLemmas.{backslash-stops}
use Rattle.hush_words.proofs.words.backslash.Goals as goal

pub returns-in-Some : goal.returns-in-Some
returns-in-Some c = (omega arith, omega (arith, c.in-Some.ensures.0), escape-ends c.args.source.now c.args.at _ c.requires.here c.in-Some.ensures)

pub returns-in-None : goal.returns-in-None
returns-in-None c = (escape-last c.args.source.now c.args.at c.requires.here c.in-None.ensures, backslash-stops c.args.source.now c.args.at c.requires.here)
