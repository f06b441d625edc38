use Rattle.std.proofs.Common.{arith, subst}
use Rattle.hush_words.specs.Words.{is_inner}
use Rattle.hush_words.specs.Steps.{StandsAt}
use Rattle.hush_words.proofs.Inners.{read-dollar, no-dollar, quote-stops, inner-byte-by, run-takes, read-run}
use Rattle.hush_words.proofs.quotes.inner_from.Goals as goal

pub returns-in-Some-clause-reads : goal.returns-in-Some-clause-reads
returns-in-Some-clause-reads c =
    let here = subst (StandsAt c.args.source.now c.args.at) c.if-first-eq36.true c.requires.here in
    let r = read-dollar _ _ _ _ here c.in-Some.ensures.reads.2 in
    (omega (arith, c.in-Some.ensures.reads.0), c.in-Some.ensures.reads.1, r.0, r.1)

pub returns-in-None-clause-reads : goal.returns-in-None-clause-reads
returns-in-None-clause-reads c =
    no-dollar c.args.source.now c.args.at (subst (StandsAt c.args.source.now c.args.at) c.if-first-eq36.true c.requires.here) c.in-None.ensures.reads

pub returns-then-first-eq34-clause-reads : goal.returns-then-first-eq34-clause-reads
returns-then-first-eq34-clause-reads c = quote-stops c.args.source.now c.args.at c.args.first c.requires.here c.if-first-eq34.true

pub returns-else-first-eq34-clause-reads : goal.returns-else-first-eq34-clause-reads
returns-else-first-eq34-clause-reads c =
    let e = inner-byte-by c.args.first c.if-first-eq36.false c.if-first-eq92.false c.if-first-eq34.false in
    let r = read-run c.args.source.now c.args.at c.run_end-end.result c.run_end-end.ensures in
    rw c.new.ensures (run-takes is_inner c.args.source.now c.args.at c.run_end-end.result c.args.first c.requires.here e c.run_end-end.ensures, c.run_end-end.ensures.1, r.0, r.1)

pub returns-in-Some-clause-fits : goal.returns-in-Some-clause-fits
returns-in-Some-clause-fits c = c.in-Some.ensures.fits

pub returns-else-first-eq34-clause-fits : goal.returns-else-first-eq34-clause-fits
returns-else-first-eq34-clause-fits c = rw c.new.ensures (c.run_end-end.ensures.0, c.run_end-end.ensures.1)
