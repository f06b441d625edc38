-- The text of a value is read as that value.
use Rattle.std.proofs.Common.{◌≡◌, ℕ, zero, suc, ◌+◌, ◌*◌, ◌/◌, ◌%◌, ◌^◌, ◌<◌, ◌&&◌, ◌||◌, Bool, true, false, eqb, ltb, cond, List, [], ◌∷◌, None, Some, Option, refl, sym, ap, ◌∙◌, ⊎_elim, arith}
use Rattle.std.specs.List.{list_all}
use Rattle.std.specs.Option.{option_map_or}
use Rattle.std.proofs.lemmas.Bool.{cases_Bool, cond-true, cond-false, eqb-true}
use Rattle.std.proofs.lemmas.Bool.Decides.{nat_tests}
use Rattle.std.proofs.lemmas.List.Folds.{list_all-append}
use Rattle.std.proofs.lemmas.List.Sums.{fold_push}
use Rattle.std.proofs.lemmas.Nat.{div_below, div-add-mod'}
use Rattle.std.proofs.Math.Nat.{mod-eq_of_lt, pow-suc}
use Rattle.text_parts.specs.declared.digits.Base.TheVariants.{Hexadecimal}
use Rattle.text_parts.specs.Digits.{digit_value, is_digit, with_digit, number}
use Rattle.text_parts.specs.Numerals.{behind_0x}
use Rattle.text_parts.proofs.NumeralLemmas.{front-whole}
use Rattle.hush_calc.specs.Numbers.{front_number, modulus, value_of}
use Rattle.hush_calc.specs.Hexadecimal.{digit_of, digits_of, hexadecimal}

digit-counts : (d : ℕ) → d < 16 → digit_value (digit_of d) ≡ Some d
digit-counts d small = grind (arith, nat_tests)

digit-is : (d : ℕ) → d < 16 → is_digit Hexadecimal (digit_of d) ≡ true
digit-is d small = ap (λ (o : Option ℕ). option_map_or (λ n. ltb n 16) o false) (digit-counts d small) ∙ grind (arith, nat_tests)

below-16 : (n : ℕ) → n % 16 < 16
below-16 n = omega arith

with-digit : (m d : ℕ) → d < 16 → with_digit Hexadecimal m (digit_of d) ≡ m * 16 + d
with-digit m d small = ap (λ (o : Option ℕ). option_map_or (λ n. m * 16 + n) o m) (digit-counts d small)

-- what k digits count
digits-count : (k n : ℕ) → n < 16 ^ k → number Hexadecimal (digits_of k n) ≡ n
digits-count zero n small = omega arith
digits-count (suc k) n small =
    ⊎_elim
    (λ h. ap (number Hexadecimal) (cond-true _ _ _ h) ∙ sym (eqb-true n 0 h))
    (λ h. ap (number Hexadecimal) (cond-false _ _ _ h)
    ∙ fold_push (with_digit Hexadecimal) 0 (digits_of k (n / 16)) (digit_of (n % 16))
    ∙ with-digit (number Hexadecimal (digits_of k (n / 16))) (n % 16) (below-16 n)
    ∙ ap (λ (m : ℕ). m * 16 + n % 16) (digits-count k (n / 16) (div_below n 16 (16 ^ k) (omega arith) (rw (pow-suc 16 k) at small)))
    ∙ div-add-mod' n 16)
    (cases_Bool (eqb n 0))

digits-are : (k n : ℕ) → list_all (is_digit Hexadecimal) (digits_of k n) ≡ true
digits-are zero n = refl
digits-are (suc k) n =
    ⊎_elim
    (λ h. ap (list_all (is_digit Hexadecimal)) (cond-true _ _ _ h))
    (λ h. ap (list_all (is_digit Hexadecimal)) (cond-false _ _ _ h)
    ∙ list_all-append (is_digit Hexadecimal) (digits_of k (n / 16)) (digit_of (n % 16) ∷ [])
    ∙ ap (λ (b : Bool). b && (is_digit Hexadecimal (digit_of (n % 16)) && true)) (digits-are k (n / 16))
    ∙ ap (λ (b : Bool). b && true) (digit-is (n % 16) (below-16 n)))
    (cases_Bool (eqb n 0))

both-0 : (a b : Bool) → (a && b) ≡ true → a ≡ true
both-0 true b h = refl
both-0 false b h = h

both-1 : (a b : Bool) → (a && b) ≡ true → b ≡ true
both-1 true b h = h
both-1 false b h = cc

is-no-x : (b : ℕ) → is_digit Hexadecimal b ≡ true → (eqb b 120 || eqb b 88) ≡ false
is-no-x b h =
    let small : (eqb b 120 ≡ true) → ⊥ = λ e. let is : is_digit Hexadecimal 120 ≡ true = sym (ap (is_digit Hexadecimal) (eqb-true b 120 e)) ∙ h in cc in
    let capital : (eqb b 88 ≡ true) → ⊥ = λ e. let is : is_digit Hexadecimal 88 ≡ true = sym (ap (is_digit Hexadecimal) (eqb-true b 88 e)) ∙ h in cc in
    grind (arith, nat_tests)

-- and no `x`
no-prefix : (xs : List ℕ) → list_all (is_digit Hexadecimal) xs ≡ true → behind_0x xs ≡ None
no-prefix [] h = refl
no-prefix (a ∷ []) h = refl
no-prefix (a ∷ b ∷ rest) h =
    let digit = both-0 (is_digit Hexadecimal b) (list_all (is_digit Hexadecimal) rest) (both-1 (is_digit Hexadecimal a) (is_digit Hexadecimal b && list_all (is_digit Hexadecimal) rest) h) in
    ap (λ (t : Bool). cond (eqb a 48 && t) (Some rest) None) (is-no-x b digit) ∙ grind (arith, nat_tests)

value-of-digits : (xs : List ℕ) → list_all (is_digit Hexadecimal) xs ≡ true → value_of xs ≡ number Hexadecimal xs % modulus
value-of-digits xs h =
    ap (λ (o : Option (List ℕ)). option_map_or (front_number Hexadecimal) o (front_number Hexadecimal xs) % modulus) (no-prefix xs h)
    ∙ ap (λ (ys : List ℕ). number Hexadecimal ys % modulus) (front-whole (is_digit Hexadecimal) xs h)

pub reads-back : (n : ℕ) → n < modulus → value_of (hexadecimal n) ≡ n
unfolding hexadecimal
reads-back n small =
    ⊎_elim
    (λ h. ap value_of (cond-true _ _ _ h) ∙ sym (eqb-true n 0 h))
    (λ h. ap value_of (cond-false _ _ _ h)
    ∙ value-of-digits (digits_of 16 n) (digits-are 16 n)
    ∙ ap (λ (m : ℕ). m % modulus) (digits-count 16 n small)
    ∙ mod-eq_of_lt small)
    (cases_Bool (eqb n 0))
