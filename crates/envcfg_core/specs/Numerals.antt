-- The numbers of a configuration: offsets and sizes.
use Rattle.std.specs.Prelude.{ℕ, ◌==◌, nat_le, List, [], ◌∷◌, Option, Some, None, option_map, option_and_then, ℤ, pos, neg_ℤ, if◌then◌else◌}
use Rattle.std.specs.Option.{option_map_or}
use Rattle.text_parts.specs.declared.digits.Base.TheVariants.{Hexadecimal}
use Rattle.text_parts.specs.Numerals.{numeral, base_of, behind_0x, plus, minus}

-- the largest magnitude of an offset
abbrev pub largest_magnitude : ℕ
largest_magnitude = 9223372036854775807

abbrev pub bounded : ℕ → Option ℕ
bounded n = if nat_le n largest_magnitude then Some n else None

-- the number that an offset's text without a sign spells
abbrev pub unbounded : List ℕ → Option ℕ
unbounded text = option_map_or (numeral Hexadecimal) (behind_0x text) (numeral (base_of text) text)

-- how far an offset lies from its end of the device
abbrev pub magnitude_of : List ℕ → Option ℕ
magnitude_of text = option_and_then bounded (unbounded text)

-- an offset: a magnitude, perhaps with a sign before it
abbrev pub offset_of : List ℕ → Option ℤ
offset_of [] = None
offset_of (b ∷ bs) =
    if b == plus then option_map pos (magnitude_of bs)
    else if b == minus then option_map (λ n. neg_ℤ (pos n)) (magnitude_of bs)
    else option_map pos (magnitude_of (b ∷ bs))

-- a size: hexadecimal digits, with or without `0x` before them
abbrev pub size_of : List ℕ → Option ℕ
size_of text = option_map_or (numeral Hexadecimal) (behind_0x text) (numeral Hexadecimal text)
