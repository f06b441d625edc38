use Rattle.std.proofs.Common.{arith, sym, ◌∙◌, ◌+◌, refl, []}
use Rattle.hush_words.specs.Words.Inner.{EscapedInner, JoinedInner, Backslash}
use Rattle.hush_words.proofs.Inners.{one-inner, at-escaped, at-joined, at-backslash}
use Rattle.hush_words.proofs.quotes.backslash_before.Goals as goal

pub returns-then-is_escaped-clause-reads : goal.returns-then-is_escaped-clause-reads
returns-then-is_escaped-clause-reads c =
    let r = one-inner c.args.source.now c.args.at (c.args.at + 1 + 1) (EscapedInner c.args.next) _
    (at-escaped _ _ _ c.requires.backslash c.requires.next (sym c.is_escaped.ensures ∙ c.if-is_escaped.true))
    (sym (c.byte_part.ensures.reads.1 c.args.source.now c.args.next c.requires.next)) in
    (omega arith, omega (arith, c.requires.next.0), r.0, r.1)

pub returns-then-next-eq10-clause-reads : goal.returns-then-next-eq10-clause-reads
returns-then-next-eq10-clause-reads c =
    let r = one-inner c.args.source.now c.args.at (c.args.at + 1 + 1) JoinedInner []
    (at-joined _ _ _ c.requires.backslash c.requires.next c.if-next-eq10.true) refl in
    (omega arith, omega (arith, c.requires.next.0), r.0, r.1)

pub returns-else-next-eq10-clause-reads : goal.returns-else-next-eq10-clause-reads
returns-else-next-eq10-clause-reads c =
    let r = one-inner c.args.source.now c.args.at (c.args.at + 1) Backslash _
    (at-backslash c.args.source.now c.args.at c.args.next c.requires.backslash c.requires.next (sym c.is_escaped.ensures ∙ c.if-is_escaped.false) c.if-next-eq10.false)
    (sym (c.byte_part-else-next-eq10.ensures.reads.1 c.args.source.now 92 c.requires.backslash)) in
    (omega arith, omega (arith, c.requires.next.0), r.0, r.1)

pub returns-then-is_escaped-clause-fits : goal.returns-then-is_escaped-clause-fits
returns-then-is_escaped-clause-fits c = c.byte_part.ensures.fits c.args.source.now c.args.next c.requires.next

pub returns-else-next-eq10-clause-fits : goal.returns-else-next-eq10-clause-fits
returns-else-next-eq10-clause-fits c = c.byte_part-else-next-eq10.ensures.fits c.args.source.now 92 c.requires.backslash
