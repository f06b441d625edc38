-- What the blocks and dot lines of a session print and leave (docs/dry-runs.md, "What is printed").
use Rattle.std.specs.Prelude.{ℕ, suc, Bool, true, false, List, [], ◌∷◌, ◌++◌, length, map, take, codes, decimal, Option, Some, None, Ok, Err}
use Rattle.std.specs.Str.{bytes_eq}
use Rattle.envimg_core.specs.Environment.{Environment}
use Rattle.env_session.specs.Session.{Held}
use Rattle.env_session.specs.declared.undo.UndoFault.TheVariants as undo
use Rattle.hush_commands.specs.Saving.{saved_line}
use Rattle.hush_run.specs.declared.ending.Ending.{Ending}
use Rattle.hush_run.specs.Meaning.{Rules, bodies_of}
use Rattle.hush_run.specs.Runs.{ending_name}
use Rattle.env_requests.specs.Requests.{Request, UndoTo, Note, Reply, Ran, Wrote, Imported, Saved, Printed, Marked, Undone, Answer, answer_to, MayBe, listing}
use Rattle.fw_session.specs.Input.{Item}
use Rattle.fw_session.specs.Asked.{Asked, Says, Asks, Seeks, with_newline, no_memory, asked_by}

-- a session, and a name for each of its marks from the opening on; those that it had before have no name
pub record NamedSession : Type 0 where
  pub held : Held
  pub names : List (Option (List ℕ))

-- what is printed, and what is left
pub record Turn : Type 0 where
  pub text : List ℕ
  pub session : NamedSession

-- `[ENDING STATUS STEPS]` and a newline
abbrev pub ending_line : Ending → (status steps : ℕ) → List ℕ
ending_line e status steps = codes "[" ++ ending_name e ++ codes " " ++ decimal status ++ codes " " ++ decimal steps ++ codes "]\n"

abbrev pub undone_text : List ℕ
undone_text = with_newline (codes "[Undone]")

-- what is printed of a reply, over these variables; no block or dot line asks for a single write or an import
abbrev pub text_of : Environment → Reply → List ℕ
text_of vars (Ran e status steps text) = text ++ ending_line e status steps
text_of vars (Wrote result) = []
text_of vars (Imported done refused e) = []
text_of vars (Saved (Some side)) = saved_line side
text_of vars (Saved None) = no_memory
text_of vars (Printed (Some text)) = text
text_of vars (Printed None) = listing vars
text_of vars (Marked (Ok n)) = with_newline (codes "[Marked]")
text_of vars (Marked (Err fault)) = with_newline (codes "[Full]")
text_of vars (Undone (Ok u)) = undone_text
text_of vars (Undone (Err undo.Gone)) = with_newline (codes "[Gone]")
text_of vars (Undone (Err undo.Memory)) = no_memory

-- the number of the mark that a reply reports
abbrev pub number_in : Reply → Option ℕ
number_in (Ran e status steps text) = None
number_in (Wrote result) = None
number_in (Imported done refused e) = None
number_in (Saved result) = None
number_in (Printed result) = None
number_in (Marked (Ok n)) = Some n
number_in (Marked (Err fault)) = None
number_in (Undone result) = None

-- the names after a mark of this number, if one was made
abbrev pub names_after : Option ℕ → Option (List ℕ) → List (Option (List ℕ)) → List (Option (List ℕ))
names_after None name names = names
names_after (Some n) name names = take n names ++ name ∷ []

abbrev pub has_name : List ℕ → Option (List ℕ) → Bool
has_name name None = false
has_name name (Some other) = bytes_eq name other

abbrev pub later : Option ℕ → Bool → Option ℕ
later (Some k) here = Some (suc k)
later None true = Some 0
later None false = None

-- the last mark of that name
abbrev pub last_named : List ℕ → List (Option (List ℕ)) → Option ℕ
last_named name [] = None
last_named name (n ∷ ns) = later (last_named name ns) (has_name name n)

-- the names of the marks that exist
abbrev pub standing : NamedSession → List (Option (List ℕ))
standing t = take (length t.held.marks) t.names

abbrev pub says : List ℕ → NamedSession → Turn
says text t = record { text = text; session = t }

abbrev pub shows : Answer → Option (List ℕ) → NamedSession → Turn
shows a name t = record { text = text_of a.left.now.env a.reply; session = record { held = a.left; names = names_after (number_in a.reply) name t.names } }

abbrev pub sought : Rules → NamedSession → Option ℕ → Note → Turn
sought rules t None note = says (with_newline (codes "[Gone]")) t
sought rules t (Some n) note = shows (answer_to rules t.held (UndoTo n) note) None t

-- what is asked for is done
abbrev pub done : Rules → NamedSession → Asked → Note → Turn
done rules t (Says text) note = says text t
done rules t (Asks request name) note = shows (answer_to rules t.held request note) name t
done rules t (Seeks name) note = sought rules t (last_named name (standing t)) note

unfoldable pub turn : Rules → NamedSession → Item → Note → Turn
turn rules t item note = done rules t (asked_by (bodies_of rules.shell) item note) note

abbrev pub MaySeek : Rules → Held → Option ℕ → Note → Type 0
MaySeek rules h None note = Unit {0}
MaySeek rules h (Some n) note = MayBe rules h (UndoTo n) note

-- whether this note is possible for what is asked for
abbrev pub MayDo : Rules → NamedSession → Asked → Note → Type 0
MayDo rules t (Says text) note = Unit {0}
MayDo rules t (Asks request name) note = MayBe rules t.held request note
MayDo rules t (Seeks name) note = MaySeek rules t.held (last_named name (standing t)) note

unfoldable pub MayStand : Rules → NamedSession → Item → Note → Type 0
MayStand rules t item note = MayDo rules t (asked_by (bodies_of rules.shell) item note) note

abbrev pub and_then : Turn → Turn → Turn
and_then first next = record { text = first.text ++ next.text; session = next.session }

-- the texts of the items one after another, and the session after them
unfoldable pub turns : Rules → NamedSession → List Item → List Note → Turn
turns rules t [] notes = says [] t
turns rules t (item ∷ items) [] = says [] t
turns rules t (item ∷ items) (note ∷ notes) = and_then (turn rules t item note) (turns rules (turn rules t item note).session items notes)

-- one note for each item, and each one possible for its item
unfoldable pub AllStand : Rules → NamedSession → List Item → List Note → Type 0
AllStand rules t [] [] = Unit {0}
AllStand rules t [] (note ∷ notes) = ⊥
AllStand rules t (item ∷ items) [] = ⊥
AllStand rules t (item ∷ items) (note ∷ notes) = MayStand rules t item note × AllStand rules (turn rules t item note).session items notes

-- ---- the requests of an input, which the headline is about

abbrev pub request_sought : Option ℕ → List Request
request_sought None = []
request_sought (Some n) = UndoTo n ∷ []

-- what is asked for as a request to the session, if it is one: an undo to the last mark of a name is one to its number
abbrev pub request_in : NamedSession → Asked → List Request
request_in t (Says text) = []
request_in t (Asks request name) = request ∷ []
request_in t (Seeks name) = request_sought (last_named name (standing t))

abbrev pub replies_to : Rules → Held → List Request → Note → List Reply
replies_to rules h requests note = map (λ request. (answer_to rules h request note).reply) requests

unfoldable pub request_of : Rules → NamedSession → Item → Note → List Request
request_of rules t item note = request_in t (asked_by (bodies_of rules.shell) item note)

-- and what is replied to it
unfoldable pub reply_of : Rules → NamedSession → Item → Note → List Reply
reply_of rules t item note = replies_to rules t.held (request_in t (asked_by (bodies_of rules.shell) item note)) note

-- the requests that the items make, one after another, and the replies to them
unfoldable pub requests_of : Rules → NamedSession → List Item → List Note → List Request
requests_of rules t [] notes = []
requests_of rules t (item ∷ items) [] = []
requests_of rules t (item ∷ items) (note ∷ notes) = request_of rules t item note ++ requests_of rules (turn rules t item note).session items notes

unfoldable pub replies_of : Rules → NamedSession → List Item → List Note → List Reply
replies_of rules t [] notes = []
replies_of rules t (item ∷ items) [] = []
replies_of rules t (item ∷ items) (note ∷ notes) = reply_of rules t item note ++ replies_of rules (turn rules t item note).session items notes
