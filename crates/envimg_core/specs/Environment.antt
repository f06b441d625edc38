-- What an environment is: a finite map from names to values.
-- A name is one or more bytes without 0 and '=', a value one or more bytes without 0
-- (docs/images.md, "Names and values").
use Rattle.std.specs.Prelude.{ℕ, ◌+◌, ◌==◌, ◌||◌, Bool, true, false, not, List, [], ◌∷◌, ◌++◌, length, sum_by, IsTrue}
use Rattle.std.specs.List.{list_any}
use Rattle.std.specs.Ordering.{nat_cmp}
use Rattle.std.specs.declared.cmp.Ordering.{Ordering}
use Rattle.std.specs.Cmp.Lexicographic.{slice_cmp}
use Rattle.std.specs.FinMap.{FinMap, entries}
use Rattle.envimg_core.specs.Bytes.{end_byte, equals}

-- the order of the bytes, from the front
abbrev pub bytes_cmp : List ℕ → List ℕ → Ordering
bytes_cmp = slice_cmp nat_cmp

abbrev pub Environment : Type 0
Environment = FinMap bytes_cmp (List ℕ)

-- a name and its value
abbrev pub Pair : Type 0
Pair = List ℕ × List ℕ

abbrev pub is_empty : List ℕ → Bool
is_empty [] = true
is_empty (b ∷ bs) = false

abbrev pub is_zero : ℕ → Bool
is_zero b = b == end_byte

abbrev pub is_equals : ℕ → Bool
is_equals b = b == equals

abbrev pub is_name : List ℕ → Bool
is_name n = not (is_empty n || list_any (λ b. is_zero b || is_equals b) n)

abbrev pub is_value : List ℕ → Bool
is_value v = not (is_empty v || list_any is_zero v)

-- the name is a name, and the value a value
abbrev pub IsVariable : Pair → Type 0
IsVariable p = IsTrue (is_name p.0) × IsTrue (is_value p.1)

-- name, '=' and value in one text
abbrev pub entry_text : Pair → List ℕ
entry_text p = p.0 ++ equals ∷ p.1

-- the bytes that a variable takes: name, '=', value and the 0 after it
abbrev pub pair_size : Pair → ℕ
pair_size p = length p.0 + length p.1 + 2

-- the bytes that an environment takes, with the 0 that ends the list
abbrev pub used : Environment → ℕ
used env = sum_by pair_size (entries env) + 1
