use Rattle.std.proofs.Common.{subst}
use Rattle.hush_words.specs.Steps.{StandsAt}
use Rattle.hush_words.proofs.WordLemmas.{last-special}
use Rattle.hush_words.proofs.walk.special.Goals as goal

pub double_opens-requires-clause-here : goal.double_opens-requires-clause-here
double_opens-requires-clause-here c =
    subst (StandsAt c.args.source.now c.args.at)
    (last-special c.args.first c.requires.special c.if-first-eq36.false c.if-first-eq92.false c.if-first-eq39.false) c.requires.here
