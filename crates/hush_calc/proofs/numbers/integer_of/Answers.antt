use Rattle.std.proofs.Common.{rules, w64, FitsSigned, ap, ◌∷◌, ◌∙◌}
use Rattle.std.proofs.lemmas.Int.{to_z-of_z}
use Rattle.hush_calc.proofs.NumberLemmas.{behind_minus}
use Rattle.hush_calc.proofs.numbers.integer_of.Goals as goal

pub returns-in-Some-eq45-default : goal.returns-in-Some-eq45-default
returns-in-Some-eq45-default c =
    let fits : FitsSigned w64 c.wrapping_neg.result = search rules in
    to_z-of_z w64 _ fits ∙ c.wrapping_neg.ensures ∙ behind_minus c.args.counting c.args.text.now c.in-Some-eq45-default.magnitude.now _
    (c.in-Some-eq45-default.ensures.cases.0 ∙ ap (λ b. b ∷ c.in-Some-eq45-default.magnitude.now) c.in-Some-eq45-default.field-0-0-test) c.magnitude_of.ensures
