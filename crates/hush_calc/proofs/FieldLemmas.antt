-- The fields that an iterator over them has given.
use Rattle.std.proofs.Common.{◌≡◌, ℕ, List, Option, length, map, ap}
use Rattle.std.specs.Borrow.{Bor}
use Rattle.std.specs.Iterator.{YieldsFirstBy, AlwaysYields, Drains}
use Rattle.std.proofs.iter.Yields.{listed, gives_Drains}
use Rattle.hush_calc.specs.Fields.{field_view}

abbrev steps : List (List ℕ) → Option (Bor (List ℕ)) → List (List ℕ) → Type 0
steps = YieldsFirstBy field_view (λ s. s)

all_given : (fields : List (List ℕ)) → AlwaysYields steps field_view fields fields
all_given fields = listed {B = List ℕ} steps field_view (λ s. s) (λ s t p. ap (λ (fs : List (List ℕ)). length fs) p.0) (λ s x t p. p) fields

pub given : (fields : List (List ℕ)) (ws : List (Bor (List ℕ))) → Drains steps fields ws → map field_view ws ≡ fields
given fields ws drains = gives_Drains steps field_view ws fields fields (all_given fields) drains
