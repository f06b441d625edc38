-- How a session over a reader and a writer ends.
use Rattle.std.specs.Prelude.{◌≡◌, ◌⊎◌, ℕ, ◌<◌, ◌≤◌, Bool, true, false, List, [], ◌∷◌, ◌++◌, Option, Some, None, length}
use Rattle.std.specs.Io.KnownBytes.{Appends, Consumes, IsAtEnd}
use Rattle.fw_session.specs.Input.{Item, Block, Dot, items_of, to_last_dot}
use Rattle.fw_session.specs.Streams.{Counts}
use Rattle.hush_run.specs.Meaning.{Rules}
use Rattle.env_session.specs.Session.{Held, opening}
use Rattle.env_session.specs.Laws.{IsSameState}
use Rattle.env_requests.specs.Headline.{Headline}
use Rattle.env_requests.specs.Requests.{Undo, Note}
use Rattle.fw_session.specs.Asked.{Asks, asked_by_line}
use Rattle.fw_session.specs.Turns.{NamedSession, undone_text, turn, turns, MayStand, AllStand, request_of, requests_of, reply_of, replies_of}
use Rattle.fw_session.specs.declared.session_end.SessionEnding.{SessionEnding}
use Rattle.fw_session.specs.declared.session_end.SessionEnding.TheVariants.{Done, ReadFault, TooLong, WriteFault, Memory}

-- for some notes, all these items were answered, and the headline holds of the requests that they are
pub record AllAnswered (rules : Rules) (h : NamedSession) (items : List Item) (out out' : Option (List ℕ)) (n n' : ℕ)
    (h' : NamedSession) : Type 0 where
  pub notes : List Note
  pub stand : AllStand rules h items notes
  pub text : Appends out out' (turns rules h items notes).text
  pub count : Counts n n' (turns rules h items notes).text
  pub session : h' ≡ (turns rules h items notes).session
  pub headline : Headline rules h.held (requests_of rules h items notes) (replies_of rules h items notes) h'.held

-- nothing follows a dot line; a block is answered at the dot line after it, or at the end, and is followed by
-- at most that line
abbrev pub IsLast : Item → List Item → Type 0
IsLast (Block text) after = (after ≡ []) ⊎ ((line : List ℕ) × (after ≡ Dot line ∷ []))
IsLast (Dot line) after = after ≡ []

-- the same of the items before one, and of that one
abbrev pub HeadlineUpTo : Rules → NamedSession → (before : List Item) → List Note → Item → Note → NamedSession → Type 0
HeadlineUpTo rules h before notes item note h' =
    Headline rules h.held (requests_of rules h before notes ++ request_of rules (turns rules h before notes).session item note)
    (replies_of rules h before notes ++ reply_of rules (turns rules h before notes).session item note) h'.held

-- some were answered, and of the next one's text only a prefix was written; it was done, and nothing after it
-- was begun
pub record CutShort (rules : Rules) (h : NamedSession) (items : List Item) (out out' : Option (List ℕ)) (n n' : ℕ)
    (h' : NamedSession) : Type 0 where
  pub before : List Item
  pub item : Item
  pub after : List Item
  pub cut : items ≡ before ++ item ∷ after
  pub last : IsLast item after
  pub notes : List Note
  pub stand : AllStand rules h before notes
  pub note : Note
  pub may : MayStand rules (turns rules h before notes).session item note
  pub front : List ℕ
  pub rest : List ℕ
  pub text : (turn rules (turns rules h before notes).session item note).text ≡ front ++ rest
  pub left : 0 < length rest
  pub wrote : Appends out out' ((turns rules h before notes).text ++ front)
  pub count : Counts n n' ((turns rules h before notes).text ++ front)
  pub session : h' ≡ (turn rules (turns rules h before notes).session item note).session
  pub headline : HeadlineUpTo rules h before notes item note h'

abbrev pub AnsweredOrCut : Rules → NamedSession → List Item → Option (List ℕ) → Option (List ℕ) → ℕ → ℕ →
    NamedSession → Bool → Type 0
AnsweredOrCut rules h items out out' n n' h' true = AllAnswered rules h items out out' n n' h'
AnsweredOrCut rules h items out out' n n' h' false = CutShort rules h items out out' n n' h'

-- the most bytes that are handled
abbrev pub input_limit : ℕ
input_limit = 16777216

-- the most bytes that one read gives
abbrev pub read_limit : ℕ
read_limit = 4096

abbrev pub IsRead : Option (List ℕ) → Option (List ℕ) → List ℕ → ℕ → Type 0
IsRead input input' bytes read = Consumes input input' bytes × (read ≡ length bytes) × (length bytes ≤ input_limit)

-- a whole call
abbrev pub Ends : SessionEnding → Rules → NamedSession → Option (List ℕ) → Option (List ℕ) → Option (List ℕ) →
    Option (List ℕ) → ℕ → ℕ → NamedSession → Type 0
Ends Done rules h input input' out out' read written h' =
    (bytes : List ℕ) × IsRead input input' bytes read × IsAtEnd input' × AllAnswered rules h (items_of bytes) out out' 0 written h'
Ends ReadFault rules h input input' out out' read written h' =
    (bytes : List ℕ) × IsRead input input' bytes read × AllAnswered rules h (to_last_dot (items_of bytes)) out out' 0 written h'
Ends TooLong rules h input input' out out' read written h' =
    (bytes : List ℕ) × (more : ℕ) × Consumes input input' (bytes ++ more ∷ []) × (read ≡ length bytes) × (length bytes ≡ input_limit)
    × AllAnswered rules h (to_last_dot (items_of bytes)) out out' 0 written h'
Ends WriteFault rules h input input' out out' read written h' =
    (bytes : List ℕ) × IsRead input input' bytes read
    × (((front : List ℕ) × (rest : List ℕ) × (bytes ≡ front ++ rest) × (length rest < read_limit)
    × CutShort rules h (to_last_dot (items_of front)) out out' 0 written h')
    ⊎ (IsAtEnd input' × CutShort rules h (items_of bytes) out out' 0 written h'))
Ends Memory rules h input input' out out' read written h' =
    (bytes : List ℕ) × IsRead input input' bytes read
    × ((front : List ℕ) × (rest : List ℕ) × (bytes ≡ front ++ rest) × AllAnswered rules h (to_last_dot (items_of front)) out out' 0 written h')

-- after a whole input that ends with a `.undo`, for which `[Undone]` was printed, what is shown is what was
-- shown at the opening
abbrev pub LastUndoRestores : SessionEnding → Held → Option (List ℕ) → Option (List ℕ) → Option (List ℕ) → Held → Type 0
LastUndoRestores ending h input out out' h' =
    (bytes line begun printed : List ℕ) (items : List Item) → ending ≡ Done → input ≡ Some bytes →
    items_of bytes ≡ items ++ Dot line ∷ [] → asked_by_line line ≡ Asks Undo None → out ≡ Some begun →
    out' ≡ Some (printed ++ undone_text) → IsSameState (opening h) h'.now
