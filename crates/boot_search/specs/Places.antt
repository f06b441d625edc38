-- The places of stored environments in a list, by their bytes.
use Rattle.std.specs.Prelude.{◌≡◌, ℕ, List, Vec, Option, None, Some, slice_get, Contains}
use Rattle.std.specs.Ordering.{nat_cmp}
use Rattle.std.specs.Cmp.Lexicographic.{slice_cmp}
use Rattle.std.specs.BTreeMap as tree
use Rattle.std.specs.declared.cmp.Ordering.{Ordering}
use Rattle.std.specs.declared.alloc.Global.{Global}

-- the place of an environment; none only if it isn't in the list
abbrev pub IsAt : List (List ℕ) → List ℕ → Option ℕ → Type 0
IsAt texts bytes None = Contains texts bytes → ⊥
IsAt texts bytes (Some place) = slice_get texts place ≡ Some bytes

abbrev pub bytes_order : Vec ℕ Global → Vec ℕ Global → Ordering
bytes_order x y = slice_cmp nat_cmp x.items y.items

-- each environment is looked up to its place
abbrev pub AreAt : List (List ℕ) → tree.BTreeMap (Vec ℕ Global) ℕ → Type 0
AreAt texts places = (q : Vec ℕ Global) → IsAt texts q.items (tree.get bytes_order places q)
