-- What the laws of this crate say.
use Rattle.std.specs.Prelude.{◌≡◌, ℕ, ◌<◌, nat_le, Bool, true, List, length, IsTrue}
use Rattle.std.specs.List.{AllByRecursion, list_all}
use Rattle.envvars_core.specs.Attributes.{attributes}
use Rattle.env_session.specs.NameSets.{no_names}
use Rattle.env_session.specs.Session.{State, Held, state_at, undone, opening, IsStoppedUndo}
use Rattle.env_session.specs.Requests.{Request, Write, Import, Save, MarkNow, UndoTo, Print, Runs}

-- whether a request leaves mark n in place: only an undo to a mark below it takes it away
abbrev pub spares : ℕ → Request → Bool
spares n (Write name new force) = true
spares n (Import es) = true
spares n Save = true
spares n MarkNow = true
spares n (UndoTo m) = nat_le n m
spares n Print = true

-- whatever was asked since: a mark that was spared is there, and the state at it is what it was
abbrev pub MarksStand : Type 0
MarksStand =
    (h after : Held) (requests : List Request) (n : ℕ) → n < length h.marks → IsTrue (list_all (spares n) requests) → Runs h requests after →
    (n < length after.marks) × (state_at after.marks n after.now ≡ state_at h.marks n h.now)

-- two states are the same in all that a session shows
pub record IsSameState (before now : State) : Type 0 where
  pub variables : now.env ≡ before.env
  pub attributes_are : (n : List ℕ) → attributes now.env n ≡ attributes before.env n
  pub first_copy : now.first ≡ before.first
  pub second_copy : now.second ≡ before.second
  pub choice : now.current ≡ before.current

-- whatever was asked since, an undo to a mark that was spared gives the state when it was made
abbrev pub UndoReturns : Type 0
UndoReturns =
    (h after : Held) (requests : List Request) (n : ℕ) → n < length h.marks → IsTrue (list_all (spares n) requests) → Runs h requests after →
    IsSameState (state_at h.marks n h.now) (undone n after).now

-- whatever was asked since, an undo of all gives the opening
abbrev pub UndoRestores : Type 0
UndoRestores =
    (h after : Held) (requests : List Request) → 0 < length h.marks → Runs h requests after →
    IsSameState (opening h) (undone 0 after).now

-- no accepted write changed a value in any span
abbrev pub IsUnchanged : Held → Type 0
IsUnchanged h = AllByRecursion (λ m. m.touched ≡ no_names) h.marks

-- then no undo is stopped as out of memory
abbrev pub QuietUndo : Type 0
QuietUndo = (old new : Held) (n k : ℕ) → IsUnchanged old → IsStoppedUndo n old new k → ⊥
