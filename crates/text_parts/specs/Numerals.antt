-- Numerals: texts that spell a number and nothing else, and what tells their base.
use Rattle.std.specs.Prelude.{ℕ, ◌||◌, ◌&&◌, not, ◌==◌, List, [], ◌∷◌, length, Option, Some, None, if◌then◌else◌}
use Rattle.std.specs.List.{list_all}
use Rattle.text_parts.specs.declared.digits.Base.{Base}
use Rattle.text_parts.specs.declared.digits.Base.TheVariants.{Octal, Decimal}
use Rattle.text_parts.specs.Bytes.{begins_with}
use Rattle.text_parts.specs.Digits.{digit_0, is_digit, number}

abbrev pub small_x : ℕ
small_x = 120

abbrev pub capital_x : ℕ
capital_x = 88

-- the signs that may be before a number
abbrev pub plus : ℕ
plus = 43

abbrev pub minus : ℕ
minus = 45

-- one or more digits, and nothing else
abbrev pub numeral : Base → List ℕ → Option ℕ
numeral base text = if not (length text == 0) && list_all (is_digit base) text then Some (number base text) else None

-- what follows `0x` or `0X` at the front, if that is there
abbrev pub behind_0x : List ℕ → Option (List ℕ)
behind_0x [] = None
behind_0x (a ∷ []) = None
behind_0x (a ∷ b ∷ rest) = if a == digit_0 && (b == small_x || b == capital_x) then Some rest else None

-- the base in which a number without `0x` is read: octal if it begins with 0, else decimal
abbrev pub base_of : List ℕ → Base
base_of text = if begins_with digit_0 text then Octal else Decimal
