-- A data area goes on from a smaller one.
use Rattle.std.proofs.Common.{◌≡◌, ℕ, zero, suc, ◌-◌, ◌≤◌, List, [], ◌∷◌, ◌++◌, take, drop, refl, ap, arith, lit<, ◌∙◌}
use Rattle.envimg_core.specs.Digest.{AreBytes}

take_of_none : (n : ℕ) → ◌≡◌ {A = List ℕ} [] (take n [])
take_of_none zero = refl
take_of_none (suc n) = refl

taken_on : (s e : ℕ) (xs : List ℕ) → s ≤ e → take e xs ≡ take s xs ++ take (e - s) (drop s xs)
taken_on zero e xs h = ap (λ n. take n xs) same
  where
    same : e ≡ e - 0
    same = omega arith
taken_on (suc s) zero xs h = absurd (omega arith)
taken_on (suc s) (suc e) [] h = take_of_none (suc e - suc s)
taken_on (suc s) (suc e) (x ∷ xs) h =
    let same : e - s ≡ suc e - suc s = omega arith in
    ap (λ ys. x ∷ ys) (taken_on s e xs (omega arith)) ∙ ap (λ n. x ∷ (take s xs ++ take n (drop s xs))) same

-- what lies between the head and the end: up to a place before, and from there on
pub area_goes_on : (h s e : ℕ) (xs : List ℕ) → h ≤ s → s ≤ e → drop h (take e xs) ≡ drop h (take s xs) ++ take (e - s) (drop s xs)
area_goes_on zero s e xs p q = taken_on s e xs q
area_goes_on (suc h) zero e xs p q = absurd (omega arith)
area_goes_on (suc h) (suc s) zero xs p q = absurd (omega arith)
area_goes_on (suc h) (suc s) (suc e) [] p q = take_of_none (suc e - suc s)
area_goes_on (suc h) (suc s) (suc e) (x ∷ xs) p q =
    let same : e - s ≡ suc e - suc s = omega arith in
    area_goes_on h s e xs (omega arith) (omega arith) ∙ ap (λ n. drop h (take s xs) ++ take n (drop s xs)) same

-- nothing lies between the head and its end
pub nothing_yet : (h : ℕ) (xs : List ℕ) → drop h (take h xs) ≡ []
nothing_yet zero xs = refl
nothing_yet (suc h) [] = refl
nothing_yet (suc h) (x ∷ xs) = nothing_yet h xs

-- what is left of bytes are bytes
pub are_dropped : (n : ℕ) (xs : List ℕ) → AreBytes xs → AreBytes (drop n xs)
are_dropped zero xs are = are
are_dropped (suc n) [] are = are
are_dropped (suc n) (x ∷ xs) are = are_dropped n xs (λ i. are (suc i))

pub are_taken : (n : ℕ) (xs : List ℕ) → AreBytes xs → AreBytes (take n xs)
are_taken zero xs are i = lit< tt
are_taken (suc n) [] are i = lit< tt
are_taken (suc n) (x ∷ xs) are zero = are zero
are_taken (suc n) (x ∷ xs) are (suc i) = are_taken n xs (λ j. are (suc j)) i
