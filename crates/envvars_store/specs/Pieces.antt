-- One piece of a data area.
use Rattle.std.specs.Prelude.{◌≡◌, ℕ, ◌+◌, ◌<◌, false, List, [], ◌∷◌, ◌++◌, length, drop, filter, fold, All, slice_range}
use Rattle.std.specs.declared.cmp.Ordering.TheVariants.{Greater}
use Rattle.envimg_core.specs.Environment.{is_zero, is_equals, bytes_cmp, Environment, IsVariable}
use Rattle.envimg_core.specs.Pieces.{entries_of, entry_of, has_name, after_entry}
use Rattle.std.specs.FinMap.{insert}
use Rattle.envvars_store.specs.Laying.{IsExtent}
use Rattle.envvars_store.specs.declared.variable.Extent.{Extent}

-- a piece goes from one index to another, it is not empty, and the entries from its start on are its own and those
-- after it
pub record IsPiece (area : List ℕ) (start end : ℕ) : Type 0 where
  pub some : start < end
  pub within : end < length area
  pub whole : All (λ b. is_zero b ≡ false) (slice_range area start end)
  pub next : entries_of (drop start area)
      ≡ filter has_name (entry_of (slice_range area start end) ∷ []) ++ entries_of (drop (end + 1) area)

-- the extent is that of the entry that begins at `at`: it has a name, without '=', which comes after the last one,
-- and a value
pub record IsNextExtent (area : List ℕ) (at : ℕ) (last : List ℕ) (p : Extent) : Type 0 where
  pub start : p.start ≡ at
  pub piece : IsPiece area p.start p.end
  pub extent : IsExtent area p
  pub formed : IsVariable (slice_range area p.start p.middle, slice_range area (p.middle + 1) p.end)
  pub plain : All (λ b. is_equals b ≡ false) (slice_range area p.start p.middle)
  pub entry : (m : Environment) →
      fold after_entry m (filter has_name (entry_of (slice_range area p.start p.end) ∷ []))
      ≡ insert m (slice_range area p.start p.middle) (slice_range area (p.middle + 1) p.end)
  pub rising : bytes_cmp (slice_range area p.start p.middle) last ≡ Greater
