use Rattle.std.proofs.Common.{arith, sym, ◌∙◌, ◌+◌, ap, subst, Some, [], ◌∷◌, drop}
use Rattle.hush_words.specs.Parts.{written}
use Rattle.hush_words.specs.Views.{kind_token, BeginsAt}
use Rattle.hush_words.proofs.DollarLemmas.{begins-here}
use Rattle.hush_words.proofs.TextLemmas.{operator-single, and-read, or-read}
use Rattle.hush_words.proofs.FaultLemmas.{operator-fault}
use Rattle.hush_words.proofs.reading.operator.Goals as goal
use Rattle.hush_words.proofs.reading.operator.Goals.{then-first-eq38, else-first-eq38}

pub returns-then-not-stands_at-clause-reads : goal.returns-then-not-stands_at-clause-reads
returns-then-not-stands_at-clause-reads c =
    (operator-single c.args.source.now c.args.at c.args.first c.requires.here c.requires.operator (sym c.stands_at.ensures ∙ c.if-not-stands_at.true), operator-fault c.args.source.now c.args.at c.args.first c.requires.here c.requires.operator)

pub returns-clause-reads : goal.returns-clause-reads
returns-clause-reads c =
    let source = c.args.source.now in
    let twice = sym c.stands_at.ensures ∙ c.if-not-stands_at.false in
    let here = begins-here c.args.first source (c.args.at + 1) twice in (
      omega arith,
      omega (arith, here.0),
      elim c.if-first-eq38.branch [
        | then-first-eq38 w ↦ and-read source c.args.at c.args.first c.requires.here w.if-first-eq38.true twice
            ∙ ap (λ k. Some (kind_token (written source) k ∷ [], drop (c.args.at + 2) source)) (sym w.result-is)
        | else-first-eq38 w ↦ or-read source c.args.at c.args.first c.requires.here c.requires.operator w.if-first-eq38.false twice
            ∙ ap (λ k. Some (kind_token (written source) k ∷ [], drop (c.args.at + 2) source)) (sym w.result-is)
      ],
    )

pub returns-clause-starts : goal.returns-clause-starts
returns-clause-starts c =
    elim c.if-first-eq38.branch [
      | then-first-eq38 w ↦ subst (BeginsAt c.args.at) (sym w.result-is) tt
      | else-first-eq38 w ↦ subst (BeginsAt c.args.at) (sym w.result-is) tt
    ]
