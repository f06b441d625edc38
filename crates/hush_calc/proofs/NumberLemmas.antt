-- Numbers as `test` counts them, and their negations.
use Rattle.std.proofs.Common.{◌≡◌, ℕ, ◌%◌, ◌^◌, List, ◌∷◌, ℤ, pos, neg_ℤ, ◌-ℤ◌, ap, sym, ◌∙◌, refl, w64, FitsSigned, to_z, of_z, arith}
use Rattle.std.specs.Int.{cast_signed, int_wrap, int_wrapping_neg}
use Rattle.std.proofs.lemmas.Int.{wrapping_neg_is, SFits-int_wrap, int_wrap_fits, int_wrap-sub_right, to_z-of_z, ints, clamps}
use Rattle.text_parts.specs.Numerals.{minus}
use Rattle.hush_calc.specs.declared.numbers.Counting.{Counting}
use Rattle.hush_calc.specs.declared.numbers.Counting.TheVariants.{Saturating, Wrapping}
use Rattle.hush_calc.specs.Numbers.{counted, integer_of, magnitude_of}

wrapped : (n : ℕ) → cast_signed w64 (n % 2 ^ 64) ≡ int_wrap w64 (pos n)
unfolding int_wrap
wrapped n = refl

pub wrapped_is : (c : Counting) (m n : ℕ) → c ≡ Wrapping → m ≡ n % 2 ^ 64 → cast_signed w64 m ≡ counted c (pos n)
wrapped_is c m n is e = ap (cast_signed w64) e ∙ wrapped n ∙ ap (λ x. counted x (pos n)) (sym is)

fits : (c : Counting) (z : ℤ) → FitsSigned w64 (counted c z)
fits Saturating z = omega (arith, ints, clamps)
fits Wrapping z = SFits-int_wrap w64 z

less_than_none : (z : ℤ) → neg_ℤ z ≡ pos 0 -ℤ z
less_than_none z = omega (arith, ints)

negated : (c : Counting) (n : ℕ) → int_wrapping_neg w64 (counted c (pos n)) ≡ counted c (neg_ℤ (pos n))
negated Saturating n =
    let back : FitsSigned w64 (neg_ℤ (counted Saturating (pos n))) = omega (arith, ints, clamps) in
    wrapping_neg_is w64 _ (fits Saturating (pos n)) ∙ int_wrap_fits w64 _ back ∙ omega (arith, ints, clamps)
negated Wrapping n =
    wrapping_neg_is w64 _ (fits Wrapping (pos n)) ∙ ap (int_wrap w64) (less_than_none _) ∙ int_wrap-sub_right w64 (pos 0) (pos n)
    ∙ ap (int_wrap w64) (sym (less_than_none (pos n)))

pub behind_minus : (c : Counting) (word rest : List ℕ) (m : ℤ) → word ≡ minus ∷ rest → m ≡ counted c (pos (magnitude_of rest)) →
    int_wrapping_neg w64 (to_z w64 (of_z w64 m)) ≡ integer_of c word
behind_minus c word rest m e is =
    ap (λ x. int_wrapping_neg w64 (to_z w64 (of_z w64 x))) is ∙ ap (int_wrapping_neg w64) (to_z-of_z w64 _ (fits c (pos (magnitude_of rest))))
    ∙ negated c (magnitude_of rest) ∙ ap (integer_of c) (sym e)
