-- Wherever an undo in a list answers Ok, what is shown is what was shown when its mark was made.
use Rattle.std.proofs.Common.{◌≡◌, ◌≢◌, ℕ, zero, suc, ◌+◌, ◌<◌, ◌≤◌, Bool, true, false, cond, List, [], ◌∷◌, ◌++◌, length, take, fold, Option, Some, None, is_some, inl, inr, refl, sym, ap, subst, ◌∙◌, arith, Ok, Err}
use Rattle.std.specs.Prelude.{nat_lt, ◌==◌, if◌then◌else◌}
use Rattle.std.proofs.lemmas.Bool.{ltb-true, lt-ltb, le-leb, eqb-true, eqb-false}
use Rattle.envimg_core.specs.Pieces.{Entry}
use Rattle.env_session.specs.Session.{State, Held, new_mark, state_at, marked, undone, undone_above, IsStoppedUndo, most_marks}
use Rattle.env_session.specs.Session as held_by
use Rattle.env_session.specs.Requests as session
use Rattle.env_session.specs.Laws.{IsSameState}
use Rattle.env_session.specs.declared.undo.UndoFault.TheVariants as undo
use Rattle.env_session.specs.declared.marks.MarkFault.TheVariants.{Full}
use Rattle.env_session.proofs.LawLemmas.{Keeps}
use Rattle.hush_syntax.specs.Grammar.{Chains}
use Rattle.hush_run.specs.Meaning.{Rules, within}
use Rattle.env_requests.specs.Requests.{Request, Run, Write, Import, Save, Print, Mark, Undo, UndoTo, Note, Through, Refused, Stopped, Reply, Marked, Undone, Answer, gives, answer_to, undo_answer, mark_answer, MayBe, UndoNote}
use Rattle.env_requests.specs.Marks.{undoes_to}
use Rattle.env_requests.specs.Headline.{replies, AllMayBe, made_after, UndosReturn}
use Rattle.env_requests.specs.Laws.{run_left, AllUndosReturn}
use Rattle.env_requests.proofs.RunRequests.{run_keeps_marks, as_many, request_as_many}
use Rattle.env_requests.proofs.KeepLemmas.{keeps_step, keeps_run, keeps_self, undone_is}

-- what was shown when each mark was made is the state at it
abbrev Agrees : (ℕ → State) → Held → Type 0
Agrees made h = (k : ℕ) → k < length h.marks → made k ≡ state_at h.marks k h.now

abbrev AgreesAfter : (ℕ → State) → Answer → Type 0
AgreesAfter made answer = Agrees (made_after made answer) answer.left

-- no more marks, and these are kept
kept : (made : ℕ → State) (h after : Held) → length after.marks ≤ length h.marks → ((k : ℕ) → k < length after.marks → k < length h.marks → Keeps k h after) → Agrees made h → Agrees made after
kept made h after fewer keeps agrees k there =
    let below : k < length h.marks = omega (arith, there, fewer) in agrees k below ∙ sym (keeps k there below).same

same_marks : (made : ℕ → State) (h after : Held) → length after.marks ≡ length h.marks → ((k : ℕ) → k < length h.marks → Keeps k h after) → Agrees made h → Agrees made after
same_marks made h after e keeps agrees = kept made h after (omega (arith, e)) (λ k there below. keeps k below) agrees

imported_marks : (p : Held × ℕ) (es : List Entry) → length (fold session.tally p es).0.marks ≡ length p.0.marks
imported_marks p [] = refl
imported_marks p (e ∷ es) = imported_marks (session.tally p e) es ∙ as_many p.0 e.0 e.1 (session.refusal_in p.0 e.0 e.1 false)

import_agrees : (made : ℕ → State) (h : Held) (es : List Entry) → Agrees made h → Agrees made (session.imported h es).0
unfolding session.imported
import_agrees made h es agrees = same_marks made h (session.imported h es).0 (imported_marks (h, 0) es) (λ k there. keeps_step k h _ (session.Import es) there refl (inl refl)) agrees

run_agrees : (made : ℕ → State) (rules : Rules) (tree : Option Chains) (h : Held) → Agrees made h → Agrees made (run_left rules tree h)
run_agrees made rules tree h agrees = same_marks made h (run_left rules tree h) (run_keeps_marks rules tree h).0 (λ k there. keeps_run k rules tree h there) agrees

write_agrees : (made : ℕ → State) (h : Held) (name : List ℕ) (new : Option (List ℕ)) (force : Bool) → Agrees made h → Agrees made (session.write_done h name new force)
write_agrees made h name new force agrees =
    same_marks made h _ (request_as_many h (session.Write name new force) refl) (λ k there. keeps_step k h _ (session.Write name new force) there refl (inl refl)) agrees

save_agrees : (made : ℕ → State) (h : Held) → Agrees made h → Agrees made (session.request h session.Save)
save_agrees made h agrees = same_marks made h _ (request_as_many h session.Save refl) (λ k there. keeps_step k h _ session.Save there refl (inl refl)) agrees

-- a mark
length-last : (ms : List held_by.Mark) (m : held_by.Mark) → length (ms ++ m ∷ []) ≡ suc (length ms)
length-last [] m = refl
length-last (x ∷ ms) m = ap suc (length-last ms m)

at-last : (ms : List held_by.Mark) (now : State) → state_at (ms ++ new_mark now ∷ []) (length ms) now ≡ now
at-last [] now = refl
at-last (x ∷ ms) now = at-last ms now

marked_agrees : (made : ℕ → State) (h : Held) → nat_lt most_marks (length h.marks) ≡ false → Agrees made h → AgreesAfter made (gives (Marked (Ok (length h.marks))) (marked h))
marked_agrees made h room agrees k there =
    elim (length h.marks == k) as (λ b. (length h.marks == k) ≡ b → (if b then h.now else made k) ≡ state_at (h.marks ++ new_mark h.now ∷ []) k h.now) [
      | true ↦ λ e. subst (λ (n : ℕ). h.now ≡ state_at (h.marks ++ new_mark h.now ∷ []) n h.now) (eqb-true (length h.marks) k e) (sym (at-last h.marks h.now))
      | false ↦ λ e.
          let other : length h.marks ≢ k = eqb-false (length h.marks) k e in
          let long = length-last h.marks (new_mark h.now) in
          let below : k < length h.marks = omega (arith, there, long, other) in
          agrees k below ∙ sym (keeps_step k h (marked h) session.MarkNow below refl (inl (sym (ap (λ b. cond b h (marked h)) room)))).same
    ] refl

mark_agrees : (made : ℕ → State) (h : Held) → Agrees made h → AgreesAfter made (mark_answer h)
mark_agrees made h agrees =
    elim (nat_lt most_marks (length h.marks)) as (λ b. nat_lt most_marks (length h.marks) ≡ b → AgreesAfter made (cond b (gives (Marked (Err Full)) h) (gives (Marked (Ok (length h.marks))) (marked h)))) [
      | true ↦ λ e. agrees
      | false ↦ λ e. marked_agrees made h e agrees
    ] refl

-- an undo
length-undone : (ms : List held_by.Mark) (n : ℕ) (m : held_by.Mark) → n < length ms → length (take n ms ++ m ∷ []) ≡ suc n
length-undone [] n m there = absurd (omega (arith, there))
length-undone (x ∷ ms) zero m there = refl
length-undone (x ∷ ms) (suc n) m there = ap suc (length-undone ms n m (omega (arith, there)))

length-above : (ms : List held_by.Mark) (n : ℕ) → n < length ms → length (take (suc n) ms) ≡ suc n
length-above [] n there = absurd (omega (arith, there))
length-above (x ∷ ms) zero there = refl
length-above (x ∷ ms) (suc n) there = ap suc (length-above ms n (omega (arith, there)))

undone_marks : (h : Held) (n : ℕ) → n < length h.marks → length (undone n h).marks ≡ suc n
unfolding undone
undone_marks h n there = length-undone h.marks n _ there

above_marks : (h : Held) (n : ℕ) → n < length h.marks → length (undone_above n h).marks ≡ suc n
unfolding undone_above
above_marks h n there = length-above h.marks n there

undone_agrees : (made : ℕ → State) (n : ℕ) (h : Held) → n < length h.marks → Agrees made h → Agrees made (undone n h)
undone_agrees made n h there agrees =
    let long = undone_marks h n there in
    kept made h (undone n h) (omega (arith, long, there)) (λ k within below.
    let le : k ≤ n = omega (arith, long, within) in
    keeps_step k h (undone n h) (session.UndoTo n) below (le-leb k n le) (inl (sym (ap (λ b. cond b (undone n h) h) (lt-ltb n (length h.marks) there))))) agrees

above_agrees : (made : ℕ → State) (n j : ℕ) (h : Held) → IsStoppedUndo n h (undone_above j h) j → Agrees made h → Agrees made (undone_above j h)
above_agrees made n j h may agrees =
    let there = may.stands in
    let long = above_marks h j there in
    kept made h (undone_above j h) (omega (arith, long, there)) (λ k within below.
    let le : k ≤ j = omega (arith, long, within) in
    let own : IsStoppedUndo j h (undone_above j h) j = record { from = omega arith; stands = may.stands; left = may.left; refused = may.refused } in
    keeps_step k h (undone_above j h) (session.UndoTo j) below (le-leb k j le) (inr (j, own))) agrees

abbrev if_there : ℕ → Held → Bool → Answer
if_there n h b = cond b (gives (Undone (Ok tt)) (undone n h)) (gives (Undone (Err undo.Gone)) h)

undo_agrees : (made : ℕ → State) (n : ℕ) (h : Held) (note : Note) → Agrees made h → UndoNote n h note → AgreesAfter made (undo_answer n h note)
undo_agrees made n h Through agrees may =
    elim (nat_lt n (length h.marks)) as (λ b. nat_lt n (length h.marks) ≡ b → AgreesAfter made (if_there n h b)) [
      | true ↦ λ e. undone_agrees made n h (ltb-true n (length h.marks) e) agrees
      | false ↦ λ e. agrees
    ] refl
undo_agrees made n h Refused agrees may = absurd may
undo_agrees made n h (Stopped j) agrees may = above_agrees made n j h may agrees

-- it brought back what was shown when its mark was made
undo_back : (made : ℕ → State) (n : ℕ) (h : Held) (note : Note) → Agrees made h → (undo_answer n h note).reply ≡ Undone (Ok tt) → IsSameState (made n) (undo_answer n h note).left.now
undo_back made n h Through agrees =
    elim (nat_lt n (length h.marks)) as (λ b. nat_lt n (length h.marks) ≡ b → (if_there n h b).reply ≡ Undone (Ok tt) → IsSameState (made n) (if_there n h b).left.now) [
      | true ↦ λ e ok. let there : n < length h.marks = ltb-true n (length h.marks) e in undone_is h n (made n) there (sym (agrees n there))
      | false ↦ λ e ok. absurd (cc)
    ] refl
undo_back made n h Refused agrees = λ ok. absurd (cc)
undo_back made n h (Stopped j) agrees = λ ok. absurd (cc)

-- a request
agrees_after : (made : ℕ → State) (rules : Rules) (h : Held) (r : Request) (note : Note) → Agrees made h → MayBe rules h r note → AgreesAfter made (answer_to rules h r note)
unfolding answer_to MayBe
agrees_after made rules h (Run tree) Through agrees may = run_agrees made rules tree h agrees
agrees_after made rules h (Run tree) Refused agrees may = absurd may
agrees_after made rules h (Run tree) (Stopped k) agrees may = run_agrees made (within k rules) tree h agrees
agrees_after made rules h (Write name new force) Through agrees may = write_agrees made h name new force agrees
agrees_after made rules h (Write name new force) Refused agrees may = agrees
agrees_after made rules h (Write name new force) (Stopped k) agrees may = absurd may
agrees_after made rules h (Import es) Through agrees may = import_agrees made h es agrees
agrees_after made rules h (Import es) Refused agrees may = absurd may
agrees_after made rules h (Import es) (Stopped k) agrees may = import_agrees made h (take k es) agrees
agrees_after made rules h Save Through agrees may = save_agrees made h agrees
agrees_after made rules h Save Refused agrees may = agrees
agrees_after made rules h Save (Stopped k) agrees may = absurd may
agrees_after made rules h Print Through agrees may = agrees
agrees_after made rules h Print Refused agrees may = agrees
agrees_after made rules h Print (Stopped k) agrees may = absurd may
agrees_after made rules h Mark note agrees may = mark_agrees made h agrees
agrees_after made rules h Undo note agrees may = undo_agrees made 0 h note agrees may
agrees_after made rules h (UndoTo n) note agrees may = undo_agrees made n h note agrees may

abbrev Back : (ℕ → State) → Request → Answer → Type 0
Back made r answer = (n : ℕ) → undoes_to r ≡ Some n → answer.reply ≡ Undone (Ok tt) → IsSameState (made n) answer.left.now

back_at : (made : ℕ → State) (m : ℕ) (answer : Answer) → (answer.reply ≡ Undone (Ok tt) → IsSameState (made m) answer.left.now) →
    (n : ℕ) → Some m ≡ Some n → answer.reply ≡ Undone (Ok tt) → IsSameState (made n) answer.left.now
back_at made m answer back n e ok = let is : m ≡ n = cc in subst (λ (k : ℕ). IsSameState (made k) answer.left.now) is (back ok)

no_undo : {P : Type 0} (n : ℕ) → None ≡ Some n → P
no_undo n e = absurd (cc)

back : (made : ℕ → State) (rules : Rules) (h : Held) (r : Request) (note : Note) → Agrees made h → Back made r (answer_to rules h r note)
unfolding answer_to
back made rules h (Run tree) note agrees n e ok = no_undo n e
back made rules h (Write name new force) note agrees n e ok = no_undo n e
back made rules h (Import es) note agrees n e ok = no_undo n e
back made rules h Save note agrees n e ok = no_undo n e
back made rules h Print note agrees n e ok = no_undo n e
back made rules h Mark note agrees n e ok = no_undo n e
back made rules h Undo note agrees n e ok = back_at made 0 (undo_answer 0 h note) (undo_back made 0 h note agrees) n e ok
back made rules h (UndoTo m) note agrees n e ok = back_at made m (undo_answer m h note) (undo_back made m h note agrees) n e ok

undos_return : (rules : Rules) (rs : List Request) (h : Held) (notes : List Note) (made : ℕ → State) → Agrees made h → AllMayBe rules h rs notes → UndosReturn made rs (replies rules h rs notes)
unfolding replies AllMayBe UndosReturn
undos_return rules [] h notes made agrees may = tt
undos_return rules (r ∷ rs) h [] made agrees may = absurd may
undos_return rules (r ∷ rs) h (note ∷ notes) made agrees may = (
  back made rules h r note agrees,
  undos_return rules rs (answer_to rules h r note).left notes (made_after made (answer_to rules h r note)) (agrees_after made rules h r note agrees may.0) may.1,
)

pub all_undos_return : AllUndosReturn
all_undos_return rules h rs notes may = undos_return rules rs h notes (λ n. state_at h.marks n h.now) (λ k there. refl) may
