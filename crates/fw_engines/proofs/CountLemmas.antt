-- The number of refused entries in decimal digits, the last one after the others.
use Rattle.std.proofs.Common.{◌≡◌, ℕ, zero, suc, ◌+◌, ◌/◌, ◌%◌, ◌<◌, ◌≤◌, ◌^◌, [], ◌∷◌, ◌++◌, refl, sym, ap, ◌∙◌, arith, codes}
use Rattle.std.specs.Fmt.{decimal}
use Rattle.std.proofs.lemmas.Fmt.{decimal_digit, decimal_step}
use Rattle.fw_engines.specs.Changes.{count_text}

pub one_digit : (n : ℕ) → n < 10 → (48 + n % 10) ∷ [] ≡ decimal n
one_digit n h = let e : 48 + n % 10 ≡ 48 + n = omega arith in ap (λ (x : ℕ). x ∷ []) e ∙ sym (decimal_digit n h)

pub more_digits : (n : ℕ) → 10 ≤ n → n < 2 ^ 64 → decimal (n / 10) ++ (48 + n % 10) ∷ [] ≡ decimal n
more_digits n h s = sym (decimal_step n h s)

pub count_text_is : (n : ℕ) → 0 < n → count_text n ≡ codes "## Error: " ++ decimal n ++ (codes " entries refused" ++ 10 ∷ [])
count_text_is zero h = absurd (omega arith)
count_text_is (suc n) h = refl
