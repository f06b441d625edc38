-- Variables in runs, one run after another, and where one is in them.
use Rattle.std.specs.Prelude.{◌≡◌, ℕ, zero, suc, ◌<◌, ◌≤◌, T, List, [], ◌∷◌, ◌++◌, map, flat_map, length, take, drop, All, Vec, vec_len, slice_index_or}
use Rattle.std.specs.declared.alloc.Global.{Global}
use Rattle.std.specs.FinMap.Entries.{is_sorted}
use Rattle.std.specs.declared.cmp.Ordering.TheVariants.{Equal}
use Rattle.envimg_core.specs.Environment.{Pair, bytes_cmp, IsVariable}
use Rattle.envvars_store.specs.Order.{AllBefore, StartsAfter}
use Rattle.envvars_store.specs.Laying.{pair_of, LiesIn}
use Rattle.envvars_store.specs.declared.variable.Variable.{Variable}
use Rattle.envvars_store.specs.declared.runs.Position.{Position}

-- a run of variables
abbrev pub Run : Type 0
Run = Vec Variable Global

-- the variables of the runs, in order
abbrev pub flat : List Run → List Variable
flat runs = flat_map (λ r. r.items) runs

-- variables as names with their values
abbrev pub pairs : List ℕ → List Variable → List Pair
pairs area variables = map (pair_of area) variables

-- the names with their values of all runs, in order
abbrev pub listed : List ℕ → List Run → List Pair
listed area runs = pairs area (flat runs)

-- the variables of one run
abbrev pub variables_at : List Run → ℕ → List Variable
variables_at [] r = []
variables_at (x ∷ xs) zero = x.items
variables_at (x ∷ xs) (suc r) = variables_at xs r

-- the variables before a position, those from it on, and those after it
abbrev pub front : List Run → Position → List Variable
front runs s = flat (take s.run runs) ++ take s.index (variables_at runs s.run)

abbrev pub rest : List Run → Position → List Variable
rest runs s = drop s.index (variables_at runs s.run) ++ flat (drop (suc s.run) runs)

abbrev pub later : List Run → Position → List Variable
later runs s = drop (suc s.index) (variables_at runs s.run) ++ flat (drop (suc s.run) runs)

-- a run isn't empty
abbrev pub IsFilled : Run → Type 0
IsFilled r = 0 < vec_len r

-- its name and value have their forms
abbrev pub HoldsVariable : List ℕ → Variable → Type 0
HoldsVariable area s = IsVariable (pair_of area s)

-- what holds of the runs over an area: no run is empty, each extent lies in the area, and the variables are in the
-- order of their names, each of its form
pub record AreInOrder (area : List ℕ) (runs : List Run) : Type 0 where
  pub filled : All IsFilled runs
  pub lies : All (LiesIn area) (flat runs)
  pub sorted : T (is_sorted bytes_cmp (listed area runs))
  pub formed : All (HoldsVariable area) (flat runs)

-- the last run whose first variable doesn't come after the name
pub record IsRunFor (name area : List ℕ) (runs : List Run) (r : ℕ) : Type 0 where
  pub within : r < length runs
  pub before : AllBefore name (listed area (take r runs))
  pub after : StartsAfter name (listed area (drop (suc r) runs))

-- the variable at the position has the name
pub record IsPositionOf (name area : List ℕ) (runs : List Run) (s : Position) : Type 0 where
  pub run : s.run < length runs
  pub index : s.index < length (variables_at runs s.run)
  pub before : AllBefore name (pairs area (front runs s))
  pub equal : (x : Variable) →
      x ≡ slice_index_or (variables_at runs s.run) s.index x → bytes_cmp name (pair_of area x).0 ≡ Equal

-- no variable has the name, and the position is where one would be
pub record BelongsAt (name area : List ℕ) (runs : List Run) (s : Position) : Type 0 where
  pub index : s.index ≤ length (variables_at runs s.run)
  pub before : AllBefore name (pairs area (front runs s))
  pub after : StartsAfter name (pairs area (rest runs s))
