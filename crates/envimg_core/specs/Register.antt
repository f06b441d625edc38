-- How the steps of the code compute a checksum: a register of 32 bits that turns byte by byte.
-- No promise speaks of it: `checksum` is a division.
use Rattle.std.specs.Prelude.{ℕ, zero, suc, ◌/◌, ◌%◌, ◌==◌, if◌then◌else◌, List, [], ◌∷◌, length, bit_xor, ◌+◌}

-- one bit leaves the register at its low end
unfoldable pub step : ℕ → ℕ
step r = if r % 2 == 1 then bit_xor (r / 2) 0xEDB88320 else r / 2

unfoldable pub steps : ℕ → ℕ → ℕ
steps zero r = r
steps (suc n) r = steps n (step r)

-- n bytes of zeros have gone by
unfoldable pub advance : ℕ → ℕ → ℕ
advance zero r = r
advance (suc n) r = advance n (steps 8 r)

-- bytes have gone by
unfoldable pub feed : ℕ → List ℕ → ℕ
feed r [] = r
feed r (b ∷ bs) = feed (steps 8 (bit_xor r b)) bs

-- what these bytes leave in an empty register once n bytes of zeros have gone by
abbrev pub mixed : ℕ → List ℕ → ℕ
mixed n [] = 0
mixed n (b ∷ bs) = bit_xor (advance (suc (length bs) + n) b) (mixed n bs)
