-- A data area as a list of pieces: its bytes cut at each 0 (docs/images.md, "Entries").
use Rattle.std.specs.Prelude.{ℕ, Bool, not, List, [], ◌∷◌, map, filter, fold, Option, Some, None, option_map}
use Rattle.std.specs.List.{slice_split, before_first, after_first, list_any, take_while}
use Rattle.std.specs.FinMap.{insert, remove, empty}
use Rattle.std.specs.Borrow.{Bor}
use Rattle.envimg_core.specs.Environment.{Environment, is_zero, is_equals, is_empty}

-- all but the last: of the parts that a cut at each 0 gives, those that a 0 follows
abbrev pub but_last : {X : Type 0} → List X → List X
but_last [] = []
but_last (x ∷ []) = []
but_last (x ∷ y ∷ zs) = x ∷ but_last (y ∷ zs)

-- the pieces that a 0 ends
abbrev pub ended_pieces : List ℕ → List (List ℕ)
ended_pieces area = but_last (slice_split is_zero area)

-- an ended piece is empty: the list of entries is ended inside the area
abbrev pub is_terminated : List ℕ → Bool
is_terminated area = list_any is_empty (ended_pieces area)

-- a name, and a value or no value
abbrev pub Entry : Type 0
Entry = List ℕ × Option (List ℕ)

abbrev pub value_of : List ℕ → Option (List ℕ)
value_of [] = None
value_of (b ∷ bs) = Some (b ∷ bs)

-- the name is before the first '=', the value after it: no value if there is no '=', or nothing after it
abbrev pub entry_of : List ℕ → Entry
entry_of piece = (before_first is_equals piece, value_of (after_first is_equals piece))

abbrev pub has_name : Entry → Bool
has_name e = not (is_empty e.0)

-- the ended pieces before the first empty one, those with an empty name left out
unfoldable pub entries_of : List ℕ → List Entry
entries_of area = filter has_name (map entry_of (take_while (λ piece. not (is_empty piece)) (ended_pieces area)))

-- an entry sets its name to its value, or takes the name away
abbrev pub with_value : Environment → List ℕ → Option (List ℕ) → Environment
with_value env n None = remove env n
with_value env n (Some v) = insert env n v

abbrev pub after_entry : Environment → Entry → Environment
after_entry env e = with_value env e.0 e.1

-- the variables that a list of entries leaves, from the front: so the last entry for a name decides
abbrev pub vars_of : List Entry → Environment
vars_of es = fold after_entry empty es

-- an entry that is lent, as the entry that it shows
abbrev pub entry_view : Bor (List ℕ) × Option (Bor (List ℕ)) → Entry
entry_view lent = (lent.0.now, option_map (λ v. v.now) lent.1)
