-- Where a name belongs among variables in the order of their names.
use Rattle.std.specs.Prelude.{◌≡◌, ◌≢◌, slice_index, ℕ, Bool, not, ◌<◌, ◌≤◌, List, [], ◌∷◌, length, take, drop, slice_index_or}
use Rattle.std.specs.Ordering.{eq_by_cmp}
use Rattle.std.specs.declared.cmp.Ordering.TheVariants.{Less, Equal, Greater}
use Rattle.envimg_core.specs.Environment.{Pair, bytes_cmp}

-- each of the variables comes before the name
abbrev pub AllBefore : List ℕ → List Pair → Type 0
AllBefore name [] = Unit {0}
AllBefore name (e ∷ es) = (bytes_cmp name e.0 ≡ Greater) × AllBefore name es

-- the first of the variables, if there is one, comes after the name
abbrev pub StartsAfter : List ℕ → List Pair → Type 0
StartsAfter name [] = Unit {0}
StartsAfter name (e ∷ es) = bytes_cmp name e.0 ≡ Less

-- the variable at the index has the name, and those before it come before the name
pub record IsFound (name : List ℕ) (es : List Pair) (i : ℕ) : Type 0 where
  pub within : i < length es
  pub before : AllBefore name (take i es)
  pub equal : bytes_cmp name (slice_index_or es i ([], [])).0 ≡ Equal

-- no variable has the name, and the index is where one would be
pub record IsGap (name : List ℕ) (es : List Pair) (i : ℕ) : Type 0 where
  pub within : i ≤ length es
  pub before : AllBefore name (take i es)
  pub after : StartsAfter name (drop i es)

-- whether a name differs from the first one
abbrev pub is_other : List ℕ → List ℕ → Bool
is_other q n = not (eq_by_cmp bytes_cmp q n)

-- two texts share this many bytes at their start, and no more
pub record IsShared (xs ys : List ℕ) (n : ℕ) : Type 0 where
  pub first : n ≤ length xs
  pub second : n ≤ length ys
  pub same : take n xs ≡ take n ys
  pub differ : n < length xs → n < length ys → slice_index xs n ≢ slice_index ys n
