use Rattle.std.proofs.Common.{rules, ◌%◌, ◌^◌, w64, FitsSigned, ap, ◌∙◌}
use Rattle.std.proofs.lemmas.Int.{to_z-of_z}
use Rattle.text_parts.specs.Digits.{number}
use Rattle.hush_calc.proofs.NumberLemmas.{wrapped_is}
use Rattle.hush_calc.proofs.numbers.front_number.Goals as goal

pub returns-in-Wrapping : goal.returns-in-Wrapping
returns-in-Wrapping c =
    let fits : FitsSigned w64 c.cast_signed.result = search rules in
    to_z-of_z w64 _ fits ∙ c.cast_signed.ensures
    ∙ wrapped_is c.args.counting _ _ c.in-Wrapping.is (c.wrapped_number.ensures ∙ ap (λ ds. number c.args.base ds % 2 ^ 64) c.digits_in_front-digits.ensures)
