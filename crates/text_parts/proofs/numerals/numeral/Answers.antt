use Rattle.std.proofs.Common.{Some, min, option_map, length, sym, ap, ◌∙◌, arith}
use Rattle.text_parts.proofs.NumeralLemmas.{numeral-whole, numeral-empty, numeral-part}
use Rattle.text_parts.proofs.numerals.numeral.Goals as goal

pub returns-then-is_empty : goal.returns-then-is_empty
returns-then-is_empty c = sym (ap (option_map (λ n. min n c.args.most)) (numeral-empty c.args.base c.args.text.now (sym c.is_empty.ensures ∙ c.if-is_empty.true)))

pub returns-then-digits-text : goal.returns-then-digits-text
returns-then-digits-text c = sym (ap (option_map (λ n. min n c.args.most)) (numeral-part c.args.base c.args.text.now (omega (arith, ap length c.digits_in_front-digits.ensures, c.if-digits-text.true))))

pub returns : goal.returns
returns c =
    ap Some c.number.ensures
    ∙ sym (ap (option_map (λ n. min n c.args.most)) (numeral-whole c.args.base c.args.text.now (sym c.is_empty.ensures ∙ c.if-is_empty.false) (omega (arith, ap length c.digits_in_front-digits.ensures, c.if-digits-text.false))))
