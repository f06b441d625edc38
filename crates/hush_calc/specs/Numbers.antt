-- Numbers, by the longest prefix of a text that is one (docs/test-and-setexpr.md, "Numbers").
use Rattle.std.specs.Prelude.{ℕ, ◌%◌, ◌==◌, List, [], ◌∷◌, ℤ, pos, neg_ℤ, if◌then◌else◌}
use Rattle.std.specs.Int.{int_max, int_min, int_wrap, w64}
use Rattle.std.specs.Option.{option_map_or}
use Rattle.text_parts.specs.declared.digits.Base.{Base}
use Rattle.text_parts.specs.declared.digits.Base.TheVariants.{Hexadecimal}
use Rattle.text_parts.specs.Digits.{number, digits_in_front}
use Rattle.text_parts.specs.Numerals.{base_of, behind_0x, minus}
use Rattle.hush_calc.specs.declared.numbers.Counting.{Counting}
use Rattle.hush_calc.specs.declared.numbers.Counting.TheVariants.{Saturating, Wrapping}

-- the number that the digits of a base at the front of a text spell: 0 if there are none
abbrev pub front_number : Base → List ℕ → ℕ
front_number base text = number base (digits_in_front base text)

-- the number at the front of a text without a sign. `0x` without a digit after it is 0, as its 0 alone is.
abbrev pub magnitude_of : List ℕ → ℕ
magnitude_of text = option_map_or (front_number Hexadecimal) (behind_0x text) (front_number (base_of text) text)

-- a magnitude, perhaps with `-` before it
abbrev pub signed_number : List ℕ → ℤ
signed_number [] = pos 0
signed_number (b ∷ bs) = if b == minus then neg_ℤ (pos (magnitude_of bs)) else pos (magnitude_of (b ∷ bs))

-- 2^63 - 1
abbrev pub largest_magnitude : ℕ
largest_magnitude = 9223372036854775807

-- what is left of a number: of a larger magnitude the largest; or its value modulo 2 to the 64th, from -2^63 to 2^63 - 1
abbrev pub counted : Counting → ℤ → ℤ
counted Saturating z = int_max (neg_ℤ (pos largest_magnitude)) (int_min (pos largest_magnitude) z)
counted Wrapping z = int_wrap w64 z

-- the number that `test` sees in a word
abbrev pub integer_of : Counting → List ℕ → ℤ
integer_of counting word = counted counting (signed_number word)

-- values of `setexpr` are taken modulo 2 to the 64th
abbrev pub modulus : ℕ
modulus = 18446744073709551616

-- the value that `setexpr` sees in a word: hexadecimal digits, perhaps with `0x` before them
abbrev pub value_of : List ℕ → ℕ
value_of text = option_map_or (front_number Hexadecimal) (behind_0x text) (front_number Hexadecimal text) % modulus
