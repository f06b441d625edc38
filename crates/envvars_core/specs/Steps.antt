-- What the code keeps with an environment, and what its steps do; no promise speaks of it.
use Rattle.std.specs.Prelude.{◌≡◌, ℕ, ◌≤◌, IsSome, ◌&&◌, Bool, not, List, Option, Some, if◌then◌else◌}
use Rattle.std.specs.Ordering.{eq_by_cmp}
use Rattle.std.specs.FinMap.Entries.{find}
use Rattle.std.specs.FinMap.{get}
use Rattle.envimg_core.specs.Environment.{Environment, bytes_cmp, used}
use Rattle.envimg_core.specs.Pieces.{Entry}
use Rattle.envvars_core.specs.Attributes.{FlagsItem, names_one, found_among, attr_among, attributes}
use Rattle.envvars_core.specs.Refusals.{has_type_if_some, forbidden}
use Rattle.envvars_core.specs.declared.attributes.Attr.{Attr}
use Rattle.envvars_core.specs.declared.refusals.Refusal.{Refusal}
use Rattle.envvars_core.specs.declared.refusals.Refusal.TheVariants.{BadType}

-- what is kept with an environment is what it says: the running size, which the room holds, and the attributes
pub record IsKept (env : Environment) (flags : List FlagsItem) (size room : ℕ) : Type 0 where
  pub sized : size ≡ used env
  pub fits : size ≤ room
  pub parsed : (n : List ℕ) → attr_among flags n ≡ attributes env n

-- the attributes of the first item for a name, if there is one, with one more item before them, which counts if it
-- has a name
abbrev pub found_after : FlagsItem → List FlagsItem → List ℕ → Option Attr
found_after item items n = if names_one item && eq_by_cmp bytes_cmp n item.0 then Some item.1 else found_among items n

-- each name that is kept with a value is there
abbrev pub HavePlaces : Environment → List Entry → Type 0
HavePlaces env es = (n v : List ℕ) → find bytes_cmp n es ≡ Some (Some v) → IsSome (get env n)

-- what the attributes refuse: the type first, then the access, unless the write is forced
abbrev pub attr_refusal : Bool → Attr → Option (List ℕ) → Option (List ℕ) → Option (List ℕ) → Option Refusal
attr_refusal force attr old default new =
    if not (has_type_if_some attr.kind new) then Some BadType else forbidden force attr.access old default new
