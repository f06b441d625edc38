use Rattle.std.proofs.Common.{arith, sym, ◌+◌}
use Rattle.hush_words.specs.Words.Inner.{Backslash}
use Rattle.hush_words.proofs.Inners.{one-inner, at-last}
use Rattle.hush_words.proofs.quotes.backslash.Goals as goal

pub returns-in-None-clause-reads : goal.returns-in-None-clause-reads
returns-in-None-clause-reads c =
    let r = one-inner c.args.source.now c.args.at (c.args.at + 1) Backslash _
    (at-last c.args.source.now c.args.at c.requires.here c.in-None.ensures)
    (sym (c.byte_part.ensures.reads.1 c.args.source.now 92 c.requires.here)) in
    (omega arith, omega (arith, c.requires.here.0), r.0, r.1)

pub returns-in-None-clause-fits : goal.returns-in-None-clause-fits
returns-in-None-clause-fits c = c.byte_part.ensures.fits c.args.source.now 92 c.requires.here
