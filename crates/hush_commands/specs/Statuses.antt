-- A status in decimal digits (docs/runs.md, "Stand-ins").
use Rattle.std.specs.Prelude.{ℕ, min, nat_le, List, Option, Some, None, option_and_then, if◌then◌else◌}
use Rattle.std.specs.Option.{option_map_or}
use Rattle.text_parts.specs.declared.digits.Base.TheVariants.{Decimal, Hexadecimal}
use Rattle.text_parts.specs.Numerals.{behind_0x, numeral}
use Rattle.hush_calc.specs.Numbers.{front_number}

-- a number, if it is a status
abbrev pub status_in : ℕ → Option ℕ
status_in n = if nat_le n 255 then Some n else None

-- one or more decimal digits that spell 0 to 255
abbrev pub status_of : List ℕ → Option ℕ
status_of text = option_and_then status_in (numeral Decimal text)

-- the status of the digits that a text begins with, hexadecimal ones after `0x`: 0 without any, 255 for a larger number
abbrev pub status_in_front : List ℕ → ℕ
status_in_front text = min (option_map_or (front_number Hexadecimal) (behind_0x text) (front_number Decimal text)) 255
