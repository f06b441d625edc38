-- What the laws of this crate say.
use Rattle.std.specs.Prelude.{◌≡◌, ℕ, ◌<◌, Bool, true, false, List, length, fold, Option, IsTrue}
use Rattle.std.specs.List.{list_all}
use Rattle.envvars_core.specs.Variables.{Contents}
use Rattle.envimg_core.specs.Geometry.{Shape}
use Rattle.env_session.specs.Session.{Held, state_at, undone, opening, opened, opening_state}
use Rattle.env_session.specs.Requests as session
use Rattle.env_session.specs.Laws.{IsSameState, IsUnchanged}
use Rattle.hush_syntax.specs.Grammar.{Chains}
use Rattle.hush_run.specs.Meaning.{Rules, meaning}
use Rattle.env_requests.specs.Requests.{Request, UndoTo, Note, Stopped, MayBe}
use Rattle.env_requests.specs.Headline.{replies, AllMayBe, left_by, UndosReturn}
use Rattle.env_requests.specs.Marks.{spares}

-- the session that the run of a tree leaves
abbrev pub run_left : Rules → Option Chains → Held → Held
run_left rules tree h = (meaning rules tree h).1.held

abbrev pub writes_or_saves : session.Request → Bool
writes_or_saves (session.Write name new force) = true
writes_or_saves (session.Import es) = false
writes_or_saves session.Save = true
writes_or_saves session.MarkNow = false
writes_or_saves (session.UndoTo n) = false
writes_or_saves session.Print = false

-- what a run leaves, under whatever limits, a list of writes and saves leaves, each of which was done
abbrev pub RunIsRequests : Type 0
RunIsRequests =
    (rules : Rules) (tree : Option Chains) (h : Held) →
    (requests : List session.Request) × IsTrue (list_all writes_or_saves requests)
    × (run_left rules tree h ≡ fold session.request h requests) × session.Runs h requests (run_left rules tree h)

-- a run leaves as many marks as before, and at each the state that was there
abbrev pub RunKeepsMarks : Type 0
RunKeepsMarks =
    (rules : Rules) (tree : Option Chains) (h : Held) →
    (length (run_left rules tree h).marks ≡ length h.marks)
    × ((n : ℕ) → n < length h.marks → state_at (run_left rules tree h).marks n (run_left rules tree h).now ≡ state_at h.marks n h.now)

-- the session after requests with these notes
abbrev pub after_all : Rules → Held → List Request → List Note → Held
after_all rules h requests notes = left_by h (replies rules h requests notes)

-- whatever was asked since: a mark that was spared is there, and the state at it is what it was
abbrev pub MarksStand : Type 0
MarksStand =
    (rules : Rules) (h : Held) (requests : List Request) (notes : List Note) (n : ℕ) → n < length h.marks →
    IsTrue (list_all (spares n) requests) → AllMayBe rules h requests notes →
    (n < length (after_all rules h requests notes).marks)
    × (state_at (after_all rules h requests notes).marks n (after_all rules h requests notes).now ≡ state_at h.marks n h.now)

-- whatever was asked since, an undo to a mark that was spared gives the state when it was made
abbrev pub UndoReturns : Type 0
UndoReturns =
    (rules : Rules) (h : Held) (requests : List Request) (notes : List Note) (n : ℕ) → n < length h.marks →
    IsTrue (list_all (spares n) requests) → AllMayBe rules h requests notes →
    IsSameState (state_at h.marks n h.now) (undone n (after_all rules h requests notes)).now

-- whatever was asked since, an undo of everything gives the opening
abbrev pub UndoRestores : Type 0
UndoRestores =
    (rules : Rules) (h : Held) (requests : List Request) (notes : List Note) → 0 < length h.marks → AllMayBe rules h requests notes →
    IsSameState (opening h) (undone 0 (after_all rules h requests notes)).now

-- wherever an undo in a list answers Ok, what is shown is what was shown when its mark was made
abbrev pub AllUndosReturn : Type 0
AllUndosReturn =
    (rules : Rules) (h : Held) (requests : List Request) (notes : List Note) → AllMayBe rules h requests notes →
    UndosReturn (λ n. state_at h.marks n h.now) requests (replies rules h requests notes)

-- if no accepted write changed a value in any span, no undo is stopped as out of memory
abbrev pub QuietUndo : Type 0
QuietUndo = (rules : Rules) (h : Held) (n k : ℕ) → IsUnchanged h → MayBe rules h (UndoTo n) (Stopped k) → ⊥

-- of a session that was just started the opening is what its stored copies and its defaults give
abbrev pub OpeningIsStarted : Type 0
OpeningIsStarted =
    (shape : Shape) (first : List ℕ) (second : Option (List ℕ)) (defaults : Contents) →
    opening (opened shape first second defaults) ≡ opening_state shape first second defaults.env
