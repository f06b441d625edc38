-- Line after line: what is answered, and what waits.
use Rattle.std.specs.Prelude.{◌≡◌, ◌⊎◌, ℕ, ◌<◌, ◌≤◌, ◌==◌, Bool, true, not, List, [], ◌∷◌, ◌++◌, Option, length, take, drop}
use Rattle.std.specs.List.{list_all}
use Rattle.fw_session.specs.Input.{Item, Block, joined, items_of, to_last_dot}
use Rattle.fw_session.specs.Streams.{Writes}
use Rattle.hush_run.specs.Meaning.{Rules}
use Rattle.hush_syntax.specs.Reading.{read_in}
use Rattle.hush_syntax.specs.declared.nodes.Bodies.{Bodies}
use Rattle.env_requests.specs.Requests.{Note}
use Rattle.fw_session.specs.Asked.{Asked, Says, asked_by_script, no_memory}
use Rattle.fw_session.specs.Turns.{NamedSession, done, turn, MayDo, MayStand}
use Rattle.fw_session.specs.Ends.{AllAnswered, CutShort}

-- an item for these bytes, if there are any
abbrev pub block_items : List ℕ → List Item
block_items [] = []
block_items (b ∷ bs) = Block (b ∷ bs) ∷ []

-- a block, possibly empty, before these items
abbrev pub before : List ℕ → List Item → List Item
before [] items = items
before (b ∷ bs) items = joined (b ∷ bs) items

-- whole lines that are not dot lines
unfoldable pub IsPlain : List ℕ → Type 0
IsPlain block = (xs : List ℕ) → items_of (block ++ xs) ≡ before block (items_of xs)

abbrev pub no_newline : List ℕ → Bool
no_newline bytes = list_all (λ b. not (b == 10)) bytes

-- lines of a block, and then a line without its newline
pub record IsPending (bytes : List ℕ) (start : ℕ) : Type 0 where
  pub within : start ≤ length bytes
  pub plain : IsPlain (take start bytes)
  pub unended : no_newline (drop start bytes) ≡ true

-- the same, with its newline
pub record IsLine (bytes : List ℕ) (start : ℕ) : Type 0 where
  pub line : List ℕ
  pub line_is : drop start bytes ≡ line ++ 10 ∷ []
  pub within : start < length bytes
  pub plain : IsPlain (take start bytes)
  pub unended : no_newline line ≡ true

-- nothing after these items changes which of them are up to the last dot line
unfoldable pub EndWhole : List Item → Type 0
EndWhole items = (rest : List Item) → to_last_dot (items ++ rest) ≡ items ++ to_last_dot rest

-- the bytes `bytes` waited, and `piece` was read: some items were answered, and the bytes `bytes'` wait
pub record Handled (rules : Rules) (bytes piece bytes' : List ℕ) (h h' : NamedSession) (out out' : Option (List ℕ))
    (n n' : ℕ) : Type 0 where
  pub items : List Item
  pub cuts : (xs : List ℕ) → items_of (bytes ++ (piece ++ xs)) ≡ items ++ items_of (bytes' ++ xs)
  pub whole : EndWhole items
  pub answered : AllAnswered rules h items out out' n n' h'

-- the same, and the writer failed at one of them
pub record HandledUntilCut (rules : Rules) (bytes piece : List ℕ) (h h' : NamedSession) (out out' : Option (List ℕ))
    (n n' : ℕ) : Type 0 where
  pub items : List Item
  pub cuts : (xs : List ℕ) → items_of (bytes ++ (piece ++ xs)) ≡ items ++ items_of xs
  pub whole : EndWhole items
  pub cut_short : CutShort rules h items out out' n n' h'

-- what is asked for was done, and its text written
pub record Answered (rules : Rules) (t : NamedSession) (asked : Asked) (out out' : Option (List ℕ)) (n n' : ℕ)
    (t' : NamedSession) (ok : Bool) : Type 0 where
  pub note : Note
  pub may : MayDo rules t asked note
  pub wrote : Writes out out' n n' (done rules t asked note).text ok
  pub session : t' ≡ (done rules t asked note).session

-- what a block asks for, or that memory ran out while it was read as a script
abbrev pub IsAskedByBlock : Bodies → List ℕ → Asked → Type 0
IsAskedByBlock bodies text asked = (asked ≡ asked_by_script (read_in bodies text)) ⊎ (asked ≡ Says no_memory)

-- an item answered
pub record ItemAnswered (rules : Rules) (t : NamedSession) (item : Item) (out out' : Option (List ℕ)) (n n' : ℕ)
    (t' : NamedSession) (ok : Bool) : Type 0 where
  pub note : Note
  pub may : MayStand rules t item note
  pub wrote : Writes out out' n n' (turn rules t item note).text ok
  pub session : t' ≡ (turn rules t item note).session
