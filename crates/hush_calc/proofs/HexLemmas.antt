-- The digits of a value, and the buffer that takes them from its end.
use Rattle.std.proofs.Common.{◌≡◌, ◌≢◌, ℕ, zero, suc, ◌+◌, ◌-◌, ◌/◌, ◌%◌, ◌<◌, ◌≤◌, List, [], ◌∷◌, ◌++◌, drop, set, length, refl, sym, ap, ◌∙◌, append_assoc, arith}
use Rattle.std.proofs.lemmas.Bool.{cond-false, ne_eqb}
use Rattle.std.proofs.lemmas.List.{drop-set}
use Rattle.hush_calc.specs.Hexadecimal.{digit_of, digits_of, hexadecimal}

-- one more digit from the end
digits-step : (k n : ℕ) → 0 < k → n ≢ 0 → digits_of k n ≡ digits_of (k - 1) (n / 16) ++ digit_of (n % 16) ∷ []
digits-step zero n some ne = absurd (omega arith)
digits-step (suc k) n some ne =
    let e : suc k - 1 ≡ k = omega arith in
    cond-false _ _ _ (ne_eqb n 0 ne) ∙ ap (λ (j : ℕ). digits_of j (n / 16) ++ digit_of (n % 16) ∷ []) (sym e)

pub buffer-step : (value k n d : ℕ) (xs : List ℕ) → k ≤ length xs → 0 < k → n ≢ 0 → d ≡ digit_of (n % 16) →
    digits_of 16 value ≡ digits_of k n ++ drop k xs → digits_of 16 value ≡ digits_of (k - 1) (n / 16) ++ drop (k - 1) (set xs (k - 1) d)
buffer-step value k n d xs within some ne is e =
    let e1 : k - 1 + 1 ≡ k = omega arith in
    let at : drop (k - 1) (set xs (k - 1) d) ≡ d ∷ drop k xs = drop-set xs (k - 1) d (omega arith) ∙ ap (λ (j : ℕ). d ∷ drop j xs) e1 in
    e ∙ ap (λ (t : List ℕ). t ++ drop k xs) (digits-step k n some ne)
    ∙ append_assoc (digits_of (k - 1) (n / 16)) (digit_of (n % 16) ∷ []) (drop k xs)
    ∙ ap (λ (x : ℕ). digits_of (k - 1) (n / 16) ++ x ∷ drop k xs) (sym is)
    ∙ ap (λ (t : List ℕ). digits_of (k - 1) (n / 16) ++ t) (sym at)

digits-zero : (k : ℕ) → digits_of k 0 ≡ []
digits-zero zero = refl
digits-zero (suc k) = refl

-- nothing is left
pub text-whole : (value k n : ℕ) (xs : List ℕ) → value ≢ 0 → digits_of 16 value ≡ digits_of k n ++ drop k xs → digits_of k n ≡ [] → drop k xs ≡ hexadecimal value
unfolding hexadecimal
text-whole value k n xs ne e none =
    sym (cond-false _ _ _ (ne_eqb value 0 ne) ∙ e ∙ ap (λ (t : List ℕ). t ++ drop k xs) none)

pub none-from-rest : (k n : ℕ) → n ≡ 0 → digits_of k n ≡ []
none-from-rest k n e = ap (digits_of k) e ∙ digits-zero k

pub none-from-place : (k n : ℕ) → k ≡ 0 → digits_of k n ≡ []
none-from-place k n e = ap (λ (j : ℕ). digits_of j n) e
