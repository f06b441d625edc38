-- How a variable lies in bytes: its name, a '=' in the middle, its value.
use Rattle.std.specs.Prelude.{◌≡◌, ℕ, ◌+◌, ◌<◌, ◌≤◌, List, length, take, drop, slice_index, slice_range}
use Rattle.envimg_core.specs.Bytes.{equals}
use Rattle.envimg_core.specs.Environment.{Pair, IsVariable}
use Rattle.envvars_store.specs.declared.variable.Extent.{Extent}
use Rattle.envvars_store.specs.declared.variable.Variable.{Variable}
use Rattle.envvars_store.specs.declared.variable.Variable.TheVariants.{Loaded, Written}

-- the text of an owned variable: the '=' is in the middle, and what is on its sides are a name and a value
pub record IsOwned (bytes : List ℕ) (middle : ℕ) : Type 0 where
  pub within : middle < length bytes
  pub equals : slice_index bytes middle ≡ equals
  pub formed : IsVariable (take middle bytes, drop (middle + 1) bytes)

-- an extent of an area: from its start to its end, with a '=' in the middle
pub record IsExtent (area : List ℕ) (p : Extent) : Type 0 where
  pub ordered : p.start ≤ p.middle
  pub inside : p.middle < p.end
  pub within : p.end ≤ length area
  pub equals : slice_index area p.middle ≡ equals

-- its name and its value: those in its extent of the area, or those that it owns
abbrev pub pair_of : List ℕ → Variable → Pair
pair_of area (Loaded p) = (slice_range area p.start p.middle, slice_range area (p.middle + 1) p.end)
pair_of area (Written t) = t

-- its extent is one of the area
abbrev pub LiesIn : List ℕ → Variable → Type 0
LiesIn area (Loaded p) = IsExtent area p
LiesIn area (Written t) = Unit {0}
