-- The fields of a command (docs/test-and-setexpr.md, "Fields").
use Rattle.std.specs.Prelude.{ℕ, Bool, true, false, if◌then◌else◌, List, [], ◌∷◌, take, drop}
use Rattle.std.specs.Borrow.{Bor}
use Rattle.std.specs.Str.{bytes_eq}

-- the pieces of a text that have these lengths, one after the other; if the text ends, what is left of it
abbrev pub pieces : (bytes : List ℕ) → (lengths : List ℕ) → List (List ℕ)
pieces bytes [] = []
pieces bytes (n ∷ ns) = take n bytes ∷ pieces (drop n bytes) ns

abbrev pub field_view : Bor (List ℕ) → List ℕ
field_view field = field.now

-- whether the first field is this option, and the fields without it
abbrev pub split_option : (option : List ℕ) → List (List ℕ) → Bool × List (List ℕ)
split_option option [] = (false, [])
split_option option (first ∷ rest) = if bytes_eq option first then (true, rest) else (false, first ∷ rest)
