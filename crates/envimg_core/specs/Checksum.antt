-- The checksum CRC-32 as the standards give it: division of polynomials modulo 2 (docs/images.md, "Checksum").
-- A polynomial is the list of its coefficients, the highest power first.
use Rattle.std.specs.Prelude.{ℕ, zero, suc, ◌+◌, ◌*◌, ◌/◌, ◌%◌, ◌^◌, ◌==◌, ◌++◌, Bool, not, true, false, if◌then◌else◌, List, [], ◌∷◌, map, length, replicate}
use Rattle.std.specs.List.{flat_map}

-- the sum of two coefficients
abbrev pub xor : Bool → Bool → Bool
xor true b = not b
xor false b = b

-- first with first; where one list ends, the other goes on
abbrev pub add : List Bool → List Bool → List Bool
add [] ys = ys
add (x ∷ xs) [] = x ∷ xs
add (x ∷ xs) (y ∷ ys) = xor x y ∷ add xs ys

-- the k low bits of a number, the lowest first
abbrev pub low_first : ℕ → ℕ → List Bool
low_first zero n = []
low_first (suc k) n = (n % 2 == 1) ∷ low_first k (n / 2)

-- the k low bits of a number, the highest first
abbrev pub high_first : ℕ → ℕ → List Bool
high_first zero n = []
high_first (suc k) n = (n / 2 ^ k % 2 == 1) ∷ high_first k n

-- the number whose bits these are, the lowest first
abbrev pub number : List Bool → ℕ
number [] = 0
number (b ∷ bs) = (if b then 1 else 0) + 2 * number bs

-- the divisor without its leading term
abbrev pub polynomial : List Bool
polynomial = high_first 32 0x04C11DB7

-- long division: what is left of the dividend after its first n terms
unfoldable pub divide : ℕ → List Bool → List Bool
divide zero terms = terms
divide (suc n) [] = []
divide (suc n) (true ∷ terms) = divide n (add terms polynomial)
divide (suc n) (false ∷ terms) = divide n terms

-- the message: each byte's lowest bit first
abbrev pub bits : List ℕ → List Bool
bits bytes = flat_map (low_first 8) bytes

-- the message followed by 32 zero bits, its first 32 bits inverted
abbrev pub dividend : List ℕ → List Bool
dividend bytes = add (bits bytes ++ replicate 32 false) (replicate 32 true)

-- the remainder inverted, its first bit the lowest of the number
unfoldable pub checksum : List ℕ → ℕ
checksum bytes = number (map not (divide (length (bits bytes)) (dividend bytes)))
