use Rattle.std.proofs.Common.{false, not, sym, ◌∙◌}
use Rattle.hush_calc.specs.declared.comparison.Opening.TheVariants.{Filled, Empty}
use Rattle.hush_calc.specs.Test.{is_empty, from_term, from_operand}
use Rattle.hush_calc.proofs.TermLemmas.{term-cons, reads-signed}
use Rattle.hush_calc.proofs.expression.read_term.Goals as goal

pub returns-in-Filled-clause-value : goal.returns-in-Filled-clause-value
returns-in-Filled-clause-value c =
    reads-signed c.loop-word.odd (λ f. from_term f false c.args.words.now) (λ f. from_operand (λ s. f (not (is_empty s))) c.next.new.self) c.read_filled.new.words
    c.read_filled.result c.signed.result c.read_filled.ensures.value
    (λ f. c.loop-word.invariant.value f
    ∙ term-cons f c.loop-word.odd c.loop-word.words c.in-Some.word.now c.next.new.self Filled c.in-Some.ensures.steps (sym c.in-Filled.is ∙ c.of.ensures))
    c.signed.ensures

pub returns-in-Empty-clause-value : goal.returns-in-Empty-clause-value
returns-in-Empty-clause-value c =
    reads-signed c.loop-word.odd (λ f. from_term f false c.args.words.now) (λ f. from_operand (λ s. f (is_empty s)) c.next.new.self) c.read_empty.new.words
    c.read_empty.result c.signed-in-Empty.result c.read_empty.ensures.value
    (λ f. c.loop-word.invariant.value f
    ∙ term-cons f c.loop-word.odd c.loop-word.words c.in-Some.word.now c.next.new.self Empty c.in-Some.ensures.steps (sym c.in-Empty.is ∙ c.of.ensures))
    c.signed-in-Empty.ensures
