-- What a request leaves of the marks, and from that what a list of requests leaves.
use Rattle.std.proofs.Common.{◌≡◌, ℕ, zero, suc, ◌<◌, ◌≤◌, Bool, true, false, cond, List, [], ◌∷◌, ◌++◌, length, take, fold, Option, Some, None, inl, inr, refl, sym, ap, subst, ◌∙◌, arith, IsTrue, Ok, Err}
use Rattle.std.specs.Prelude.{◌&&◌, nat_le, nat_lt, ◌==◌}
use Rattle.std.specs.List.{list_all}
use Rattle.std.proofs.lemmas.Bool.{ltb-true, lt-ltb, le-leb}
use Rattle.envimg_core.specs.Pieces.{Entry}
use Rattle.env_session.specs.Session.{State, Held, new_mark, state_at, marked, undone, undone_above, IsStoppedUndo, most_marks}
use Rattle.env_session.specs.Requests as session
use Rattle.env_session.specs.Laws as session_laws
use Rattle.env_session.proofs.LawLemmas.{Keeps}
use Rattle.env_session.proofs.LawLemmas as law
use Rattle.hush_syntax.specs.Grammar.{Chains}
use Rattle.hush_run.specs.Meaning.{Rules, within}
use Rattle.env_requests.specs.Requests.{Request, Run, Write, Import, Save, Print, Mark, Undo, UndoTo, Note, Through, Refused, Stopped, Answer, answer_to, undo_answer, MayBe, UndoNote}
use Rattle.env_requests.specs.Marks.{undoes_to, spared_by, spares}
use Rattle.env_requests.specs.Headline.{replies, AllMayBe, left_by}
use Rattle.env_requests.specs.Laws.{run_left, after_all, MarksStand, UndoReturns, UndoRestores, QuietUndo}
use Rattle.env_requests.proofs.RunRequests.{run_leads, all_spared, done_runs, both_left, both_right}

pub keeps_step : (n : ℕ) (h after : Held) (r : session.Request) → n < length h.marks → session_laws.spares n r ≡ true → session.Step h r after → Keeps n h after
keeps_step n h after r there spared s =
    let k = law.marks_stand h after (r ∷ []) n there (ap (λ b. b && true) spared) (after, s, refl) in record { stands = k.0; same = k.1 }

pub keeps_run : (n : ℕ) (rules : Rules) (tree : Option Chains) (h : Held) → n < length h.marks → Keeps n h (run_left rules tree h)
keeps_run n rules tree h there =
    let a = run_leads rules tree h in
    let k = law.marks_stand h (run_left rules tree h) a.requests n there (all_spared n a.requests a.only) (done_runs h a.requests _ a.left) in
    record { stands = k.0; same = k.1 }

pub keeps_self : (n : ℕ) (h : Held) → n < length h.marks → Keeps n h h
keeps_self n h there = record { stands = there; same = refl }

pub left_if : (b : Bool) (x y : Answer) → (cond b x y).left ≡ cond b x.left y.left
left_if true x y = refl
left_if false x y = refl

undo_keeps : (n m : ℕ) (h : Held) (note : Note) → n < length h.marks → IsTrue (nat_le n m) → UndoNote m h note → Keeps n h (undo_answer m h note).left
undo_keeps n m h Through there spared may = keeps_step n h _ (session.UndoTo m) there spared (inl (left_if (nat_lt m (length h.marks)) _ _))
undo_keeps n m h Refused there spared may = absurd may
undo_keeps n m h (Stopped k) there spared may = keeps_step n h _ (session.UndoTo m) there spared (inr (k, may))

pub answer_keeps : (n : ℕ) (rules : Rules) (h : Held) (r : Request) (note : Note) → n < length h.marks → IsTrue (spares n r) → MayBe rules h r note →
    Keeps n h (answer_to rules h r note).left
unfolding answer_to MayBe
answer_keeps n rules h (Run tree) Through there spared may = keeps_run n rules tree h there
answer_keeps n rules h (Run tree) Refused there spared may = absurd may
answer_keeps n rules h (Run tree) (Stopped k) there spared may = keeps_run n (within k rules) tree h there
answer_keeps n rules h (Write name new force) Through there spared may = keeps_step n h _ (session.Write name new force) there refl (inl refl)
answer_keeps n rules h (Write name new force) Refused there spared may = keeps_self n h there
answer_keeps n rules h (Write name new force) (Stopped k) there spared may = absurd may
answer_keeps n rules h (Import es) Through there spared may = keeps_step n h _ (session.Import es) there refl (inl refl)
answer_keeps n rules h (Import es) Refused there spared may = absurd may
answer_keeps n rules h (Import es) (Stopped k) there spared may = keeps_step n h _ (session.Import (take k es)) there refl (inl refl)
answer_keeps n rules h Save Through there spared may = keeps_step n h _ session.Save there refl (inl refl)
answer_keeps n rules h Save Refused there spared may = keeps_self n h there
answer_keeps n rules h Save (Stopped k) there spared may = absurd may
answer_keeps n rules h Print Through there spared may = keeps_self n h there
answer_keeps n rules h Print Refused there spared may = keeps_self n h there
answer_keeps n rules h Print (Stopped k) there spared may = absurd may
answer_keeps n rules h Mark note there spared may = keeps_step n h _ session.MarkNow there refl (inl (left_if (nat_lt most_marks (length h.marks)) _ _))
answer_keeps n rules h Undo note there spared may = undo_keeps n 0 h note there spared may
answer_keeps n rules h (UndoTo m) note there spared may = undo_keeps n m h note there spared may

keeps_then : (n : ℕ) (h mid after : Held) → Keeps n h mid → Keeps n mid after → Keeps n h after
keeps_then n h mid after a b = record { stands = b.stands; same = b.same ∙ a.same }

all_keep : (rules : Rules) (n : ℕ) (rs : List Request) (h : Held) (notes : List Note) → n < length h.marks → IsTrue (list_all (spares n) rs) → AllMayBe rules h rs notes →
    Keeps n h (after_all rules h rs notes)
unfolding replies AllMayBe
all_keep rules n [] h [] there spared may = keeps_self n h there
all_keep rules n [] h (note ∷ notes) there spared may = absurd may
all_keep rules n (r ∷ rs) h [] there spared may = absurd may
all_keep rules n (r ∷ rs) h (note ∷ notes) there spared may =
    let one = answer_keeps n rules h r note there (both_left (spares n r) (list_all (spares n) rs) spared) may.0 in
    let mid = (answer_to rules h r note).left in
    keeps_then n h mid (after_all rules mid rs notes) one (all_keep rules n rs mid notes one.stands (both_right (spares n r) (list_all (spares n) rs) spared) may.1)

pub marks_stand : MarksStand
marks_stand rules h rs notes n there spared may = let k = all_keep rules n rs h notes there spared may in (k.stands, k.same)

-- an undo to a mark that is there
pub undone_is : (h : Held) (n : ℕ) (s : State) → n < length h.marks → state_at h.marks n h.now ≡ s → session_laws.IsSameState s (undone n h).now
undone_is h n s there e = subst (λ v. session_laws.IsSameState v (undone n h).now) e (law.undo_returns h h [] n there refl refl)

pub undo_returns : UndoReturns
undo_returns rules h rs notes n there spared may =
    let k = all_keep rules n rs h notes there spared may in undone_is (after_all rules h rs notes) n (state_at h.marks n h.now) k.stands k.same

-- the opening is never taken away
pub spares_opening : (rs : List Request) → list_all (spares 0) rs ≡ true
spares_opening [] = refl
spares_opening (r ∷ rs) = ap (λ b. b && list_all (spares 0) rs) (one (undoes_to r)) ∙ spares_opening rs
  where
    one : (o : Option ℕ) → spared_by 0 o ≡ true
    one None = refl
    one (Some m) = le-leb 0 m (omega arith)

pub undo_restores : UndoRestores
undo_restores rules h rs notes some may = undo_returns rules h rs notes 0 some (spares_opening rs) may

pub quiet_undo : QuietUndo
unfolding MayBe
quiet_undo rules h n k unchanged may = law.quiet_undo h (undone_above k h) n k unchanged may
