-- Digits, and the numbers that they spell.
use Rattle.std.specs.Prelude.{ℕ, ◌+◌, ◌-◌, ◌*◌, Bool, false, nat_lt, List, take_while, Option, Some, None, if◌then◌else◌}
use Rattle.std.specs.Int.{is_in_range}
use Rattle.std.specs.List.{fold}
use Rattle.std.specs.Option.{option_map_or}
use Rattle.text_parts.specs.declared.digits.Base.{Base}
use Rattle.text_parts.specs.declared.digits.Base.TheVariants.{Octal, Decimal, Hexadecimal}

abbrev pub digit_0 : ℕ
digit_0 = 48

abbrev pub digit_9 : ℕ
digit_9 = 57

abbrev pub capital_a : ℕ
capital_a = 65

abbrev pub capital_f : ℕ
capital_f = 70

abbrev pub small_a : ℕ
small_a = 97

abbrev pub small_f : ℕ
small_f = 102

abbrev pub radix : Base → ℕ
radix Octal = 8
radix Decimal = 10
radix Hexadecimal = 16

-- what a digit `0` to `9`, `A` to `F` or `a` to `f` counts
abbrev pub digit_value : ℕ → Option ℕ
digit_value b =
    if is_in_range digit_0 digit_9 b then Some (b - digit_0)
    else if is_in_range capital_a capital_f b then Some (b - capital_a + 10)
    else if is_in_range small_a small_f b then Some (b - small_a + 10)
    else None

-- a digit that counts less than the base
abbrev pub is_digit : Base → ℕ → Bool
is_digit base b = option_map_or (λ value. nat_lt value (radix base)) (digit_value b) false

-- a number with one digit more after it; a byte that is no digit adds nothing
abbrev pub with_digit : Base → ℕ → ℕ → ℕ
with_digit base n b = option_map_or (λ value. n * radix base + value) (digit_value b) n

-- the number that digits spell
abbrev pub number : Base → List ℕ → ℕ
number base digits = fold (with_digit base) 0 digits

-- the digits of a base at the front of a text
abbrev pub digits_in_front : Base → List ℕ → List ℕ
digits_in_front base text = take_while (is_digit base) text
