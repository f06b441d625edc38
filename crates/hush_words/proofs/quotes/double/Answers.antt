use Rattle.std.proofs.Common.{arith, refl, sym, ◌∙◌}
use Rattle.hush_words.proofs.DollarLemmas.{begins-here}
use Rattle.hush_words.proofs.QuoteLemmas.{double-closes, double-open}
use Rattle.hush_words.proofs.FaultLemmas.{double-dollar, double-unclosed}
use Rattle.hush_words.proofs.quotes.double.Goals as goal

pub returns-then-stands_at : goal.returns-then-stands_at
returns-then-stands_at c =
    let e = sym c.stands_at.ensures ∙ c.if-stands_at.true in
    let here = begins-here 34 c.args.source.now c.loop-read.at e in (
      omega (arith, c.loop-read.invariant.0),
      omega (arith, here.0),
      double-closes _ _ _ c.requires.here c.in_default.ensures.reads e c.loop-read.invariant.2,
    )

pub returns-then-at-source : goal.returns-then-at-source
returns-then-at-source c =
    (double-open c.args.source.now c.args.place c.loop-read.at c.requires.here c.in_default.ensures.reads (sym c.stands_at.ensures ∙ c.if-stands_at.false) c.loop-read.invariant.2, double-dollar c.args.source.now c.args.place c.loop-read.at c.requires.here c.in_default.ensures.reads c.loop-read.invariant.2 c.if-at-source.true)

pub returns-else-at-source : goal.returns-else-at-source
returns-else-at-source c =
    (double-open c.args.source.now c.args.place c.loop-read.at c.requires.here c.in_default.ensures.reads (sym c.stands_at.ensures ∙ c.if-stands_at.false) c.loop-read.invariant.2, double-unclosed c.args.source.now c.args.place c.loop-read.at c.requires.here c.in_default.ensures.reads c.loop-read.invariant.2 c.if-at-source.false)

pub loop-read-init : goal.loop-read-init
loop-read-init c = (omega arith, omega (arith, c.requires.here.0), refl)

pub loop-read-preserved : goal.loop-read-preserved
loop-read-preserved c =
    let i = c.loop-read.invariant in
    let r = c.in-Some.ensures.reads in
    (omega (arith, i.0, r.0), r.1, sym r.3 ∙ i.2)
