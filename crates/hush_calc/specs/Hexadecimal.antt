-- The text of a value (docs/test-and-setexpr.md, "setexpr").
use Rattle.std.specs.Prelude.{ℕ, zero, suc, ◌+◌, ◌-◌, ◌/◌, ◌%◌, ◌==◌, nat_lt, List, [], ◌∷◌, ◌++◌, codes, if◌then◌else◌}
use Rattle.text_parts.specs.Digits.{digit_0, small_a}

-- the lower-case digit that counts n
abbrev pub digit_of : ℕ → ℕ
digit_of n = if nat_lt n 10 then digit_0 + n else small_a + (n - 10)

-- the digits of n, the highest first and no zero before it: k of them at most, and none for 0
abbrev pub digits_of : (k : ℕ) → ℕ → List ℕ
digits_of zero n = []
digits_of (suc k) n = if n == 0 then [] else digits_of k (n / 16) ++ digit_of (n % 16) ∷ []

-- the most digits that a value has
abbrev pub most_digits : ℕ
most_digits = 16

unfoldable pub hexadecimal : ℕ → List ℕ
hexadecimal n = if n == 0 then codes "0" else digits_of most_digits n
