use Rattle.std.proofs.Common.{arith, sym, ◌∙◌, ap, subst, drop, ◌+◌}
use Rattle.hush_words.specs.Reading.{found, dollar_at}
use Rattle.hush_words.specs.Steps.{StandsAt}
use Rattle.hush_words.specs.Words.Dollar.{Alone}
use Rattle.hush_words.proofs.DollarLemmas.{read-name, read-alone, behind-bad, behind-alone, braces-there, read-status}
use Rattle.hush_words.proofs.dollars.dollar_before.Goals as goal

pub returns-then-begins_name-clause-reads : goal.returns-then-begins_name-clause-reads
returns-then-begins_name-clause-reads c = rw c.new.ensures (
  c.run_end-end.ensures.0,
  c.run_end-end.ensures.1,
  read-name _ _ _ c.args.next _ c.requires.next (sym c.begins_name.ensures ∙ c.if-begins_name.true) c.run_end-end.ensures,
)

pub returns-then-next-eq123-clause-reads : goal.returns-then-next-eq123-clause-reads
returns-then-next-eq123-clause-reads c = braces-there _ _ _ c.args.next c.braces.result c.requires.next c.if-next-eq123.true c.braces.ensures.reads

pub returns-then-next-eq63-clause-reads : goal.returns-then-next-eq63-clause-reads
returns-then-next-eq63-clause-reads c =
    let here : StandsAt c.args.source.now (c.args.place + 1) 63 = subst (StandsAt c.args.source.now (c.args.place + 1)) c.if-next-eq63.true c.requires.next in
    (omega arith, omega (arith, here.0), read-status _ _ _ here)

pub returns-then-follows_dollar-clause-reads : goal.returns-then-follows_dollar-clause-reads
returns-then-follows_dollar-clause-reads c =
    ap dollar_at c.requires.next.1 ∙
    behind-bad c.args.next (drop (c.args.place + 1 + 1) c.args.source.now) (sym c.begins_name.ensures ∙ c.if-begins_name.false) c.if-next-eq123.false c.if-next-eq63.false
    (sym c.follows_dollar.ensures ∙ c.if-follows_dollar.true)

pub returns-else-follows_dollar-clause-reads : goal.returns-else-follows_dollar-clause-reads
returns-else-follows_dollar-clause-reads c =
    read-alone c.args.source.now c.args.place c.args.quoted c.byte_part.result c.requires.dollar c.byte_part.ensures.reads
    (ap dollar_at c.requires.next.1 ∙
    behind-alone c.args.next (drop (c.args.place + 1 + 1) c.args.source.now) (sym c.begins_name.ensures ∙ c.if-begins_name.false) c.if-next-eq123.false c.if-next-eq63.false
    (sym c.follows_dollar.ensures ∙ c.if-follows_dollar.false)
    ∙ ap (λ l. found Alone l) (sym c.requires.next.1))

pub returns-then-begins_name-clause-fits : goal.returns-then-begins_name-clause-fits
returns-then-begins_name-clause-fits c = rw c.new.ensures (c.run_end-end.ensures.0, c.run_end-end.ensures.1)

pub returns-else-follows_dollar-clause-fits : goal.returns-else-follows_dollar-clause-fits
returns-else-follows_dollar-clause-fits c = c.byte_part.ensures.fits c.args.source.now 36 c.requires.dollar
