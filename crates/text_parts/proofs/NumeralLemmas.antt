-- Texts of digits alone.
use Rattle.std.proofs.Common.{◌≡◌, ℕ, ◌+◌, ◌<◌, ◌≤◌, ◌&&◌, Bool, true, false, not, cond, eqb, List, [], ◌∷◌, length, take_while, None, Some, refl, ap, ◌∙◌, ⊎_elim, arith}
use Rattle.std.specs.List.{list_all}
use Rattle.std.proofs.lemmas.Bool.{cases_Bool, cond-true, cond-false, and_parts}
use Rattle.std.proofs.lemmas.List.Sums.{take_while-cons}
use Rattle.text_parts.specs.declared.digits.Base.{Base}
use Rattle.text_parts.specs.Digits.{is_digit, number}
use Rattle.text_parts.specs.Numerals.{numeral}

-- if each byte passes, all of them are in the prefix
pub front-whole : (p : ℕ → Bool) (xs : List ℕ) → list_all p xs ≡ true → take_while p xs ≡ xs
front-whole p [] h = refl
front-whole p (x ∷ xs) h =
    let parts = and_parts (p x) (list_all p xs) h in
    take_while-cons p x xs ∙ cond-true (p x) (x ∷ take_while p xs) [] parts.0 ∙ ap (λ (ys : List ℕ). x ∷ ys) (front-whole p xs parts.1)

length-front : (p : ℕ → Bool) (x : ℕ) (xs : List ℕ) (b : Bool) → length (cond b (x ∷ take_while p xs) []) ≡ cond b (1 + length (take_while p xs)) 0
length-front p x xs true = omega arith
length-front p x xs false = refl

-- and if they are as many, each passes
pub whole-front : (p : ℕ → Bool) (xs : List ℕ) → length xs ≤ length (take_while p xs) → list_all p xs ≡ true
whole-front p [] h = refl
whole-front p (x ∷ xs) h =
    let len = ap length (take_while-cons p x xs) ∙ length-front p x xs (p x) in
    ⊎_elim
    (λ yes. let more = len ∙ cond-true (p x) _ _ yes in ap (λ (b : Bool). b && list_all p xs) yes ∙ whole-front p xs (omega (arith, more)))
    (λ no. let none = len ∙ cond-false (p x) _ _ no in absurd (omega (arith, none)))
    (cases_Bool (p x))

-- if they are fewer, one doesn't
pub part-front : (p : ℕ → Bool) (xs : List ℕ) → length (take_while p xs) < length xs → list_all p xs ≡ false
part-front p xs h =
    ⊎_elim
    (λ yes. absurd (omega (arith, ap length (front-whole p xs yes))))
    (λ no. no)
    (cases_Bool (list_all p xs))

no_part : (a b : Bool) → b ≡ false → (a && b) ≡ false
no_part true b h = h
no_part false b h = refl

-- a numeral, and two texts that are none: the empty one, and one that isn't digits to its end
pub numeral-whole : (base : Base) (text : List ℕ) → eqb (length text) 0 ≡ false → length text ≤ length (take_while (is_digit base) text) → numeral base text ≡ Some (number base text)
numeral-whole base text some h =
    cond-true _ _ _ (ap (λ (b : Bool). not b && list_all (is_digit base) text) some ∙ whole-front (is_digit base) text h)

pub numeral-empty : (base : Base) (text : List ℕ) → eqb (length text) 0 ≡ true → numeral base text ≡ None
numeral-empty base text none = cond-false _ _ _ (ap (λ (b : Bool). not b && list_all (is_digit base) text) none)

pub numeral-part : (base : Base) (text : List ℕ) → length (take_while (is_digit base) text) < length text → numeral base text ≡ None
numeral-part base text h = cond-false _ _ _ (no_part _ _ (part-front (is_digit base) text h))
