use Rattle.std.proofs.Common.{arith, sym, ◌∙◌}
use Rattle.hush_words.proofs.DollarLemmas.{read-braces, begins-here}
use Rattle.hush_words.proofs.dollars.braces.Goals as goal

pub returns-then-stands_at-clause-reads : goal.returns-then-stands_at-clause-reads
returns-then-stands_at-clause-reads c =
    let e = sym c.stands_at.ensures ∙ c.if-stands_at.true in
    let here = begins-here 125 c.args.source.now c.run_end-end.result e in
    rw c.new.ensures (omega arith, omega (arith, here.0), read-braces _ _ _ _ c.if-start-end.true c.run_end-end.ensures e)

pub returns-then-stands_at-clause-fits : goal.returns-then-stands_at-clause-fits
returns-then-stands_at-clause-fits c = rw c.new.ensures (c.run_end-end.ensures.0, c.run_end-end.ensures.1)
