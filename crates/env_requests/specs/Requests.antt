-- What may be asked of a session, what is replied, and what is left (docs/undo.md, docs/runs.md).
use Rattle.std.specs.Prelude.{◌≡◌, ℕ, ◌≤◌, nat_lt, Bool, false, if◌then◌else◌, List, length, take, Option, Some, None, Result, Ok, Err, IsSomeAnd}
use Rattle.std.specs.List.{flat_map, slice_get}
use Rattle.std.specs.FinMap as env
use Rattle.envimg_core.specs.Environment.{Environment}
use Rattle.envimg_core.specs.Pieces.{Entry}
use Rattle.envvars_core.specs.Olds.{same_value}
use Rattle.envvars_core.specs.Refusals.{answer_of, given}
use Rattle.envvars_core.specs.declared.refusals.Refusal.{Refusal}
use Rattle.envvars_core.specs.declared.refusals.Refusal.TheVariants as refusal
use Rattle.env_session.specs.Session.{Held, most_marks, saved, side_of, last_saved, marked, undone, undone_above, IsStoppedUndo}
use Rattle.env_session.specs.Requests.{refusal_in, write_done, imported, IsChange}
use Rattle.env_session.specs.declared.session.Side.{Side}
use Rattle.env_session.specs.declared.importing.ImportEnding.{ImportEnding}
use Rattle.env_session.specs.declared.importing.ImportEnding.TheVariants as importing
use Rattle.env_session.specs.declared.marks.MarkFault.{MarkFault}
use Rattle.env_session.specs.declared.marks.MarkFault.TheVariants.{Full}
use Rattle.env_session.specs.declared.undo.UndoFault.{UndoFault}
use Rattle.env_session.specs.declared.undo.UndoFault.TheVariants as undo
use Rattle.hush_syntax.specs.Grammar.{Chains}
use Rattle.hush_commands.specs.Listing.{line_of}
use Rattle.hush_run.specs.declared.ending.Ending.{Ending}
use Rattle.hush_run.specs.declared.ending.Ending.TheVariants as ending
use Rattle.hush_run.specs.Meaning.{Rules, State, meaning, within}
use Rattle.hush_run.specs.Runs.{ending_of}

-- a run of a script with this tree; a write of a value by force or not; an import of entries; a save; a print; a mark;
-- an undo of everything; an undo to a mark
pub data Request : Type 0 where
  Run : Option Chains → Request
  Write : List ℕ → Option (List ℕ) → Bool → Request
  Import : List Entry → Request
  Save : Request
  Print : Request
  Mark : Request
  Undo : Request
  UndoTo : ℕ → Request

-- of a run its ending, status, steps and text; of an import how many entries were handled, how many refused, and its ending;
-- of a save and a print nothing if memory was refused
pub data Reply : Type 0 where
  Ran : Ending → ℕ → ℕ → List ℕ → Reply
  Wrote : Result (Unit {0}) Refusal → Reply
  Imported : ℕ → ℕ → ImportEnding → Reply
  Saved : Option Side → Reply
  Printed : Option (List ℕ) → Reply
  Marked : Result ℕ MarkFault → Reply
  Undone : Result (Unit {0}) UndoFault → Reply

-- what memory did to a request: nothing; it was refused and changed nothing; or it was stopped, a run after this many
-- steps, an import after this many entries, an undo above that mark
pub data Note : Type 0 where
  Through : Note
  Refused : Note
  Stopped : ℕ → Note

-- a reply, and the session that is left
pub record Answer : Type 0 where
  pub reply : Reply
  pub left : Held

abbrev pub gives : Reply → Held → Answer
gives reply left = record { reply = reply; left = left }

abbrev pub ran : Ending → State → Answer
ran e s = gives (Ran e s.status s.steps s.printed.text) s.held

-- what the script ends as; or what it ends as if it may count this many steps, and its ending is that memory ran out
abbrev pub run_answer : Rules → Option Chains → Held → Note → Answer
run_answer rules tree h Through = ran (ending_of (meaning rules tree h).0) (meaning rules tree h).1
run_answer rules tree h Refused = ran ending.Memory (meaning (within 0 rules) tree h).1
run_answer rules tree h (Stopped n) = ran ending.Memory (meaning (within n rules) tree h).1

abbrev pub write_answer : List ℕ → Option (List ℕ) → Bool → Held → Note → Answer
write_answer name new force h Through = gives (Wrote (answer_of (refusal_in h name new force))) (write_done h name new force)
write_answer name new force h Refused = gives (Wrote (Err refusal.Memory)) h
write_answer name new force h (Stopped n) = gives (Wrote (Err refusal.Memory)) h

abbrev pub handled : ℕ → ImportEnding → Held × ℕ → Answer
handled done e p = gives (Imported done p.1 e) p.0

abbrev pub import_answer : List Entry → Held → Note → Answer
import_answer entries h Through = handled (length entries) importing.Done (imported h entries)
import_answer entries h Refused = handled 0 importing.Memory (imported h (take 0 entries))
import_answer entries h (Stopped n) = handled n importing.Memory (imported h (take n entries))

abbrev pub save_answer : Held → Note → Answer
save_answer h Through = gives (Saved (Some (side_of h))) (saved h)
save_answer h Refused = gives (Saved None) h
save_answer h (Stopped n) = gives (Saved None) h

-- `name=value` and a newline for each variable, in order of names
unfoldable pub listing : Environment → List ℕ
listing vars = flat_map line_of (env.entries vars)

abbrev pub print_answer : Held → Note → Answer
print_answer h Through = gives (Printed (Some (listing h.now.env))) h
print_answer h Refused = gives (Printed None) h
print_answer h (Stopped n) = gives (Printed None) h

-- the opening is mark 0, and the one that is made now has the next number
abbrev pub mark_answer : Held → Answer
mark_answer h = if nat_lt most_marks (length h.marks) then gives (Marked (Err Full)) h else gives (Marked (Ok (length h.marks))) (marked h)

abbrev pub undo_answer : ℕ → Held → Note → Answer
undo_answer n h Through = if nat_lt n (length h.marks) then gives (Undone (Ok tt)) (undone n h) else gives (Undone (Err undo.Gone)) h
undo_answer n h Refused = gives (Undone (Err undo.Memory)) h
undo_answer n h (Stopped k) = gives (Undone (Err undo.Memory)) (undone_above k h)

-- the answer to a request
unfoldable pub answer_to : Rules → Held → Request → Note → Answer
answer_to rules h (Run tree) note = run_answer rules tree h note
answer_to rules h (Write name new force) note = write_answer name new force h note
answer_to rules h (Import entries) note = import_answer entries h note
answer_to rules h Save note = save_answer h note
answer_to rules h Print note = print_answer h note
answer_to rules h Mark note = mark_answer h
answer_to rules h Undo note = undo_answer 0 h note
answer_to rules h (UndoTo n) note = undo_answer n h note

-- a run is stopped after the steps that it has counted
abbrev pub RunNote : Rules → Option Chains → Held → Note → Type 0
RunNote rules tree h Through = Unit {0}
RunNote rules tree h Refused = ⊥
RunNote rules tree h (Stopped n) = (n ≤ rules.limits.steps) × ((meaning (within n rules) tree h).1.steps ≡ n)

-- a write that no check refuses and that changes a value
pub record IsNeeded (h : Held) (name : List ℕ) (new : Option (List ℕ)) (force : Bool) : Type 0 where
  pub accepted : refusal_in h name new force ≡ None
  pub changes : same_value (env.get h.now.env name) (given new) ≡ false

-- a write is refused as out of memory only if it is one
abbrev pub WriteNote : List ℕ → Option (List ℕ) → Bool → Held → Note → Type 0
WriteNote name new force h Through = Unit {0}
WriteNote name new force h Refused = IsNeeded h name new force
WriteNote name new force h (Stopped n) = ⊥

-- an import is stopped before an entry that no check refuses and that changes a value
abbrev pub ImportNote : List Entry → Held → Note → Type 0
ImportNote entries h Through = Unit {0}
ImportNote entries h Refused = ⊥
ImportNote entries h (Stopped n) = IsSomeAnd (slice_get entries n) (IsChange (imported h (take n entries)).0)

-- a save is refused only if the copy that it writes wasn't kept since the last mark
abbrev pub SaveNote : Held → Note → Type 0
SaveNote h Through = Unit {0}
SaveNote h Refused = last_saved (side_of h) h.marks ≡ false
SaveNote h (Stopped n) = ⊥

abbrev pub PrintNote : Note → Type 0
PrintNote Through = Unit {0}
PrintNote Refused = Unit {0}
PrintNote (Stopped n) = ⊥

-- a mark takes no memory
abbrev pub MarkNote : Note → Type 0
MarkNote Through = Unit {0}
MarkNote Refused = ⊥
MarkNote (Stopped n) = ⊥

-- an undo is stopped above a mark at which its span needs memory
abbrev pub UndoNote : ℕ → Held → Note → Type 0
UndoNote n h Through = Unit {0}
UndoNote n h Refused = ⊥
UndoNote n h (Stopped k) = IsStoppedUndo n h (undone_above k h) k

-- what memory may do to a request
unfoldable pub MayBe : Rules → Held → Request → Note → Type 0
MayBe rules h (Run tree) note = RunNote rules tree h note
MayBe rules h (Write name new force) note = WriteNote name new force h note
MayBe rules h (Import entries) note = ImportNote entries h note
MayBe rules h Save note = SaveNote h note
MayBe rules h Print note = PrintNote note
MayBe rules h Mark note = MarkNote note
MayBe rules h Undo note = UndoNote 0 h note
MayBe rules h (UndoTo n) note = UndoNote n h note
