use Rattle.std.proofs.Common.{sym, ◌∙◌, ap}
use Rattle.hush_words.specs.Reading.{found, dollar_at}
use Rattle.hush_words.specs.Words.Dollar.{Alone}
use Rattle.hush_words.proofs.DollarLemmas.{read-alone, behind-end}
use Rattle.hush_words.proofs.dollars.dollar.Goals as goal

pub returns-in-None-clause-reads : goal.returns-in-None-clause-reads
returns-in-None-clause-reads c =
    read-alone c.args.source.now c.args.place c.args.quoted c.byte_part.result c.requires.here c.byte_part.ensures.reads
    (ap dollar_at c.in-None.ensures ∙ behind-end ∙ ap (λ l. found Alone l) (sym c.in-None.ensures))

pub returns-in-None-clause-fits : goal.returns-in-None-clause-fits
returns-in-None-clause-fits c = c.byte_part.ensures.fits c.args.source.now 36 c.requires.here
