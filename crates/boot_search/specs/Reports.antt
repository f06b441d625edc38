-- What a report says of a board: the environments that it can come to store, and the ways that lead from one to another.
use Rattle.std.specs.Prelude.{◌≡◌, ◌<◌, ◌⊎◌, ℕ, zero, suc, List, [], ◌∷◌, ◌++◌, length, map, slice_get, Option, Some, All, Contains, Bool, IsTrue}
use Rattle.boot_search.specs.declared.board.End.{End}
use Rattle.boot_search.specs.declared.exploring.Stored.{Stored}
use Rattle.boot_search.specs.declared.exploring.Way.{Way}
use Rattle.boot_search.specs.declared.exploring.Report.{Report}
use Rattle.boot_search.specs.Outcomes.{Given, Outcome, given_of}
use Rattle.boot_search.specs.Endings.{Ended, IsEnding}

-- what a power-on over a stored environment comes to with given answers
abbrev pub Meaning : Type 0
Meaning = List ℕ → List Given → Outcome

-- a way between two stored environments, which are given by their places in the list
pub record Step : Type 0 where
  pub from : ℕ
  pub answers : List Given
  pub end : End
  pub by : List ℕ
  pub to : ℕ

abbrev pub step_of : Way → Step
step_of w = record { from = w.from; answers = map given_of w.answers.items; end = w.end; by = w.by.items; to = w.to }

abbrev pub bytes_of : Stored → List ℕ
bytes_of s = s.bytes.items

abbrev pub reached_by_of : Stored → Option ℕ
reached_by_of s = s.reached_by

-- the stored environments of a list, and what each is reached by
abbrev pub texts_of : List Stored → List (List ℕ)
texts_of stored = map bytes_of stored

abbrev pub reached_of : List Stored → List (Option ℕ)
reached_of stored = map reached_by_of stored

abbrev pub steps_of : List Way → List Step
steps_of ways = map step_of ways

-- the way of an ending from one place to another
abbrev pub step_by : ℕ → Ended → ℕ → Step
step_by from e to = record { from = from; answers = e.answers; end = e.end; by = e.by; to = to }

-- the ending of a way which leaves this stored
abbrev pub ending_by : Step → List ℕ → Ended
ending_by w next = record { answers = w.answers; end = w.end; by = w.by; next = next }

-- the way is what the board does, between two stored environments that are listed
abbrev pub IsStep : Meaning → List (List ℕ) → Step → Type 0
IsStep runs stored w =
    (before : List ℕ) × (after : List ℕ) × (slice_get stored w.from ≡ Some before) × (slice_get stored w.to ≡ Some after)
    × IsEnding (runs before) (ending_by w after)

-- a listed way leads to this stored environment, from one that stands before it in the list
abbrev pub IsReached : List Step → ℕ → Option (Option ℕ) → Type 0
IsReached ways place by =
    (way : ℕ) × (w : Step) × (by ≡ Some (Some way)) × (slice_get ways way ≡ Some w) × (w.to ≡ place) × (w.from < place)

-- each stored environment behind the first is reached
abbrev pub AreReached : ℕ → List (Option ℕ) → List Step → Type 0
AreReached count reached ways = (i : ℕ) → 0 < i → i < count → IsReached ways i (slice_get reached i)

-- these ways, by their places, lead one after another from one stored environment to the other
abbrev pub LeadsTo : List Step → ℕ → List ℕ → ℕ → Type 0
LeadsTo ways from [] to = from ≡ to
LeadsTo ways from (k ∷ ks) to = (w : Step) × (slice_get ways k ≡ Some w) × (w.from ≡ from) × LeadsTo ways w.to ks to

-- each stored environment is listed once, each way is what the board does, and each environment behind the first is reached
pub record AreSteps (runs : Meaning) (stored : List (List ℕ)) (reached : List (Option ℕ)) (ways : List Step) : Type 0 where
  pub lengths : length reached ≡ length stored
  pub once : (i k : ℕ) (state : List ℕ) → slice_get stored i ≡ Some state → slice_get stored k ≡ Some state → i ≡ k
  pub each : All (IsStep runs stored) ways
  pub behind : AreReached (length stored) reached ways

-- there is this way from the stored environment, to a listed one
abbrev pub IsListed : List (List ℕ) → List Step → ℕ → Ended → Type 0
IsListed stored ways from e = (to : ℕ) × Contains ways (step_by from e to) × (slice_get stored to ≡ Some e.next)

-- each way in which a power-on over the stored environment can end is listed
abbrev pub Covers : Meaning → List (List ℕ) → List Step → ℕ → Type 0
Covers runs stored ways from =
    (state : List ℕ) (e : Ended) → slice_get stored from ≡ Some state → IsEnding (runs state) e → IsListed stored ways from e

-- after so many power-ons this can be stored
abbrev pub Reaches : Meaning → List ℕ → ℕ → List ℕ → Type 0
Reaches runs start zero to = to ≡ start
Reaches runs start (suc n) to =
    (before : List ℕ) × (e : Ended) × Reaches runs start n before × IsEnding (runs before) e × (e.next ≡ to)

-- more stored environments and more ways, behind those that were listed
pub record Grows (stored : List (List ℕ)) (ways : List Step) (more_stored : List (List ℕ)) (more_ways : List Step) : Type 0 where
  pub stored_go_on : (rest : List (List ℕ)) × (more_stored ≡ stored ++ rest)
  pub ways_go_on : (rest : List Step) × (more_ways ≡ ways ++ rest)

-- The place of this stored environment: where it was, or behind the others if it is new.
pub record IsPlaced (stored : List (List ℕ)) (reached : List (Option ℕ)) (way : ℕ) (bytes : List ℕ) (to : ℕ) (new_stored : List (List ℕ)) (new_reached : List (Option ℕ)) : Type 0 where
  pub there : slice_get new_stored to ≡ Some bytes
  pub old_or_new : ((new_stored ≡ stored) × (new_reached ≡ reached))
      ⊎ ((to ≡ length stored) × (new_stored ≡ stored ++ bytes ∷ []) × (new_reached ≡ reached ++ Some way ∷ []) × (Contains stored bytes → ⊥))

-- one way more, and what it leaves stored where that is new
pub record Adds (stored : List (List ℕ)) (reached : List (Option ℕ)) (ways : List Step) (from : ℕ) (e : Ended) (new_stored : List (List ℕ)) (new_reached : List (Option ℕ)) (new_ways : List Step) : Type 0 where
  pub to : ℕ
  pub way : new_ways ≡ ways ++ step_by from e to ∷ []
  pub placed : IsPlaced stored reached (length ways) e.next to new_stored new_reached

-- What is listed is what the board does, and where the search was complete there is nothing else.
pub record IsExplored (runs : Meaning) (start : List ℕ) (complete : Bool) (stored : List (List ℕ)) (reached : List (Option ℕ)) (ways : List Step) : Type 0 where
  pub first : slice_get stored 0 ≡ Some start
  pub steps : AreSteps runs stored reached ways
  pub covers : IsTrue complete → (i : ℕ) → Covers runs stored ways i

abbrev pub IsReport : Meaning → List ℕ → Report → Type 0
IsReport runs start r =
    IsExplored runs start r.complete (texts_of r.stored.items) (reached_of r.stored.items) (steps_of r.ways.items)

-- whatever can be stored is listed
abbrev pub ListsAll : Meaning → List ℕ → Report → Type 0
ListsAll runs start r = (n : ℕ) (to : List ℕ) → Reaches runs start n to → Contains (texts_of r.stored.items) to

-- nothing else is listed
abbrev pub ListsOnly : Meaning → List ℕ → Report → Type 0
ListsOnly runs start r = (to : List ℕ) → Contains (texts_of r.stored.items) to → (n : ℕ) × Reaches runs start n to

-- the same of the lists of a search that goes on
abbrev pub AreListed : Meaning → List Stored → List Way → Type 0
AreListed runs stored ways = AreSteps runs (texts_of stored) (reached_of stored) (steps_of ways)

abbrev pub HaveGrown : List Stored → List Way → List Stored → List Way → Type 0
HaveGrown old_stored old_ways new_stored new_ways =
    Grows (texts_of old_stored) (steps_of old_ways) (texts_of new_stored) (steps_of new_ways)

abbrev pub WayAdded : List Stored → List Way → ℕ → Ended → List Stored → List Way → Type 0
WayAdded old_stored old_ways from e new_stored new_ways =
    Adds (texts_of old_stored) (reached_of old_stored) (steps_of old_ways) from e (texts_of new_stored) (reached_of new_stored) (steps_of new_ways)

abbrev pub BytesPlaced : List Stored → ℕ → List ℕ → ℕ → List Stored → Type 0
BytesPlaced old way bytes to new = IsPlaced (texts_of old) (reached_of old) way bytes to (texts_of new) (reached_of new)

-- each stored environment of these but the first is reached by one of these ways
abbrev pub AreReachedBy : List Stored → List Way → Type 0
AreReachedBy stored ways = AreReached (length (texts_of stored)) (reached_of stored) (steps_of ways)
