-- An offset after `-`.
use Rattle.std.proofs.Common.{◌≡◌, ℕ, suc, ◌≤◌, List, Option, None, Some, option_map, leb, zero, ⊎_elim, ℤ, pos, negsuc, ◌-ℤ◌, neg_ℤ, w64, to_z, of_z, refl, sym, ap, ◌∙◌, arith}
use Rattle.std.specs.Prelude.{FitsSigned}
use Rattle.std.proofs.lemmas.Bool.{cond-true, cond-false, cases_Bool, leb-true}
use Rattle.std.proofs.lemmas.Int.{ints, to_z-of_z, fits_signed_from_abs}
use Rattle.std.specs.Option.{option_and_then}
use Rattle.envcfg_core.specs.Numerals.{bounded, unbounded, largest_magnitude, magnitude_of}

bounded-le : (m : Option ℕ) (n : ℕ) → option_and_then bounded m ≡ Some n → n ≤ largest_magnitude
bounded-le None n e = cc
bounded-le (Some k) n e =
    ⊎_elim
    (λ h. let f : Some k ≡ Some n = sym (cond-true _ (Some k) None h) ∙ e in let g : k ≡ n = cc in omega (arith, leb-true k largest_magnitude h))
    (λ h. let f : None ≡ Some n = sym (cond-false _ (Some k) None h) ∙ e in cc)
    (cases_Bool (leb k largest_magnitude))

minus : (n : ℕ) → pos 0 -ℤ pos n ≡ neg_ℤ (pos n)
minus zero = refl
minus (suc k) = omega (arith, ints)

fits_minus : (n : ℕ) → n ≤ largest_magnitude → FitsSigned w64 (neg_ℤ (pos n))
fits_minus zero h = fits_signed_from_abs w64 (pos 0) (omega arith)
fits_minus (suc k) h = fits_signed_from_abs w64 (negsuc k) (omega arith)

by_magnitude : (z : ℤ) (m : Option ℕ) → ((n : ℕ) → m ≡ Some n → n ≤ largest_magnitude) → Some z ≡ option_map pos m →
    Some (to_z w64 (of_z w64 (pos 0 -ℤ to_z w64 (of_z w64 z)))) ≡ option_map (λ n. neg_ℤ (pos n)) m
by_magnitude z None small e = cc
by_magnitude z (Some n) small e =
    let is : z ≡ pos n = cc in
    let le = small n refl in
    let fits : FitsSigned w64 (pos n) = fits_signed_from_abs w64 (pos n) (omega arith) in
    ap (λ x. Some (to_z w64 (of_z w64 (pos 0 -ℤ to_z w64 (of_z w64 x))))) is
    ∙ ap (λ x. Some (to_z w64 (of_z w64 (pos 0 -ℤ x)))) (to_z-of_z w64 (pos n) fits)
    ∙ ap (λ x. Some (to_z w64 (of_z w64 x))) (minus n)
    ∙ ap Some (to_z-of_z w64 (neg_ℤ (pos n)) (fits_minus n le))

pub negated : (z : ℤ) (text : List ℕ) → Some z ≡ option_map pos (magnitude_of text) →
    Some (to_z w64 (of_z w64 (pos 0 -ℤ to_z w64 (of_z w64 z)))) ≡ option_map (λ n. neg_ℤ (pos n)) (magnitude_of text)
negated z text e = by_magnitude z (magnitude_of text) (bounded-le (unbounded text)) e
