-- What each call of a session answers is what its request is answered.
use Rattle.std.proofs.Common.{◌≡◌, ℕ, ◌<◌, ◌≤◌, Bool, true, false, cond, List, [], ◌∷◌, ◌++◌, length, take, map, Option, Some, None, is_some, refl, sym, ap, subst, ◌∙◌, arith, Result, Ok, Err, IfOk, OnOk, OnErr, IfSome, IfNone, IsTrue, IsOk, ◌↔◌, IsSomeAnd}
use Rattle.std.specs.Prelude.{nat_lt, IsOkUnless, Vec, ◌==◌, codes, if◌then◌else◌}
use Rattle.std.specs.List.{slice_get, flat_map}
use Rattle.std.specs.FinMap as env
use Rattle.std.specs.declared.alloc.Global.{Global}
use Rattle.std.proofs.lemmas.Bool.{ltb-true, lt-ltb, le-ltb}
use Rattle.std.proofs.lemmas.List.{take_all, append_assoc}
use Rattle.envimg_core.specs.Environment.{Environment, Pair}
use Rattle.envimg_core.specs.Pieces.{Entry}
use Rattle.envvars_core.specs.Olds.{same_value}
use Rattle.envvars_core.specs.Refusals.{answer_of, given}
use Rattle.envvars_core.specs.declared.refusals.Refusal.{Refusal}
use Rattle.envvars_core.specs.declared.refusals.Refusal.TheVariants as refusal
use Rattle.envvars_core.specs.declared.refusals.Memory.{Memory}
use Rattle.env_session.specs.Session.{Held, written, saved, side_of, last_saved, marked, most_marks, undone, UndoesTo, IsStoppedUndo}
use Rattle.env_session.specs.Requests.{refusal_in, write_done, imported, IsChange}
use Rattle.env_session.specs.declared.session.Side.{Side}
use Rattle.env_session.specs.declared.importing.ImportEnding.{ImportEnding}
use Rattle.env_session.specs.declared.importing.ImportEnding.TheVariants as importing
use Rattle.env_session.specs.declared.marks.MarkFault.{MarkFault}
use Rattle.env_session.specs.declared.marks.MarkFault.TheVariants.{Full}
use Rattle.env_session.specs.declared.undo.UndoFault.{UndoFault}
use Rattle.env_session.specs.declared.undo.UndoFault.TheVariants as undo
use Rattle.env_session.proofs.LawLemmas.{change_from}
use Rattle.hush_syntax.specs.Grammar.{Chains}
use Rattle.hush_commands.specs.Listing.{line_of}
use Rattle.hush_run.specs.declared.ending.Ending.{Ending}
use Rattle.hush_run.specs.declared.ending.Ending.TheVariants.{Finished, Exited, Steps, Depth, Word, Output}
use Rattle.hush_run.specs.declared.ending.Ending.TheVariants as ending
use Rattle.hush_run.specs.declared.outcome.Outcome.{Outcome}
use Rattle.hush_run.specs.Meaning.{Rules, State, meaning, within}
use Rattle.hush_run.specs.Runs.{Runs, RunsBy, Shows, reason_of, ending_of}
use Rattle.env_requests.specs.Requests.{Request, Run, Write, Import, Save, Print, Mark, Undo, UndoTo, Note, Through, Refused, Stopped, Reply, Ran, Wrote, Imported, Saved, Printed, Marked, Undone, Answer, gives, answer_to, undo_answer, listing, MayBe, UndoNote}
use Rattle.env_requests.specs.Views.{side_in, text_in, Obeys}

-- a run
shown : (e : Ending) (s : State) (h : Held) (o : Outcome) → Shows s h o → Ran e o.status o.steps o.text.items ≡ Ran e s.status s.steps s.printed.text
shown e s h o x = λ i. Ran e (x.status i) (x.steps i) (x.text i)

ran_through : (rules : Rules) (e : Ending) (tree : Option Chains) (h after : Held) (o : Outcome) → ending_of (meaning rules tree h).0 ≡ e → Shows (meaning rules tree h).1 after o →
    Obeys rules h (Run tree) (Ran e o.status o.steps o.text.items) after
unfolding answer_to MayBe
ran_through rules e tree h after o is x =
    let s = (meaning rules tree h).1 in
    record { note = Through; may = tt; reply_is = shown e s after o x ∙ ap (λ (v : Ending). Ran v s.status s.steps s.printed.text) (sym is); left = x.held }

ran_stopped : (rules : Rules) (tree : Option Chains) (h after : Held) (o : Outcome) → RunsBy None rules tree h after o → Obeys rules h (Run tree) (Ran ending.Memory o.status o.steps o.text.items) after
unfolding answer_to MayBe
ran_stopped rules tree h after o r =
    record { note = Stopped o.steps; may = (r.0, sym r.1.steps); reply_is = shown ending.Memory (meaning (within o.steps rules) tree h).1 after o r.1; left = r.1.held }

ran_by : (e : Ending) (rules : Rules) (tree : Option Chains) (h after : Held) (o : Outcome) → RunsBy (reason_of e) rules tree h after o → Obeys rules h (Run tree) (Ran e o.status o.steps o.text.items) after
ran_by Finished rules tree h after o r = ran_through rules Finished tree h after o (ap ending_of r.0) r.1
ran_by Exited rules tree h after o r = ran_through rules Exited tree h after o (ap ending_of r.0) r.1
ran_by Steps rules tree h after o r = ran_through rules Steps tree h after o (ap ending_of r.0) r.1
ran_by Depth rules tree h after o r = ran_through rules Depth tree h after o (ap ending_of r.0) r.1
ran_by Word rules tree h after o r = ran_through rules Word tree h after o (ap ending_of r.0) r.1
ran_by Output rules tree h after o r = ran_through rules Output tree h after o (ap ending_of r.0) r.1
ran_by ending.Memory rules tree h after o r = ran_stopped rules tree h after o r

pub run_obeys : (rules : Rules) (h after : Held) (r : Request) (tree : Option Chains) (o : Outcome) → r ≡ Run tree → Runs rules tree h after o → Obeys rules h r (Ran o.ending o.status o.steps o.text.items) after
run_obeys rules h after r tree o e runs = subst (λ v. Obeys rules h v (Ran o.ending o.status o.steps o.text.items) after) (sym e) (ran_by o.ending rules tree h after o runs)

-- a write
written_by : (rules : Rules) (h after : Held) (name : List ℕ) (new : Option (List ℕ)) (force : Bool) (o : Option Refusal) (r : Result (Unit {0}) Refusal) →
    refusal_in h name new force ≡ o → IfSome o (λ x. r ≡ Err x) → IfNone o (IsOkUnless r refusal.Memory) →
    IfNone o (IsTrue (same_value (env.get h.now.env name) (given new)) → IsOk r) → OnOk r (after ≡ written h name new) → OnErr r (after ≡ h) →
    Obeys rules h (Write name new force) (Wrote r) after
unfolding answer_to MayBe
written_by rules h after name new force (Some x) (Ok u) e refused unless idle done kept = absurd (cc)
written_by rules h after name new force (Some x) (Err y) e refused unless idle done kept =
    record { note = Through; may = tt; reply_is = ap Wrote (refused ∙ sym (ap answer_of e)); left = kept ∙ sym (ap (λ v. cond (is_some v) h (written h name new)) e) }
written_by rules h after name new force None (Ok u) e refused unless idle done kept =
    record { note = Through; may = tt; reply_is = ap Wrote (sym (ap answer_of e)); left = done ∙ sym (ap (λ v. cond (is_some v) h (written h name new)) e) }
written_by rules h after name new force None (Err y) e refused unless idle done kept =
    let changed = change_from None (same_value (env.get h.now.env name) (given new)) (Err y) (λ x some. absurd (cc)) tt idle (ap Err unless) in
    record { note = Refused; may = record { accepted = e; changes = changed.1 }; reply_is = ap (λ v. Wrote (Err v)) unless; left = kept }

pub write_obeys : (rules : Rules) (h after : Held) (q : Request) (name : List ℕ) (new : Option (List ℕ)) (force : Bool) (r : Result (Unit {0}) Refusal) → q ≡ Write name new force →
    IfSome (refusal_in h name new force) (λ x. r ≡ Err x) → IfNone (refusal_in h name new force) (IsOkUnless r refusal.Memory) →
    IfNone (refusal_in h name new force) (IsTrue (same_value (env.get h.now.env name) (given new)) → IsOk r) → OnOk r (after ≡ written h name new) → OnErr r (after ≡ h) →
    Obeys rules h q (Wrote r) after
write_obeys rules h after q name new force r e refused unless idle done kept =
    subst (λ v. Obeys rules h v (Wrote r) after) (sym e) (written_by rules h after name new force (refusal_in h name new force) r refl refused unless idle done kept)

-- an import
imported_by : (rules : Rules) (h after : Held) (es : List Entry) (done refused : ℕ) (e : ImportEnding) → (after, refused) ≡ imported h (take done es) →
    (e ≡ importing.Memory → IsSomeAnd (slice_get es done) (IsChange (imported h (take done es)).0)) → (e ≡ importing.Done → done ≡ length es) →
    Obeys rules h (Import es) (Imported done refused e) after
unfolding answer_to MayBe
imported_by rules h after es done refused importing.Done is growing all =
    let whole : done ≡ length es = all refl in
    let p : (after, refused) ≡ imported h es = is ∙ ap (imported h) (take_all done es (omega (arith, whole))) in
    record { note = Through; may = tt; reply_is = (λ i. Imported (whole i) ((p i).1) importing.Done); left = ap (λ (q : Held × ℕ). q.0) p }
imported_by rules h after es done refused importing.Memory is growing all =
    record { note = Stopped done; may = growing refl; reply_is = ap (λ (q : Held × ℕ). Imported done q.1 importing.Memory) is; left = ap (λ (q : Held × ℕ). q.0) is }

pub import_obeys : (rules : Rules) (h after : Held) (q : Request) (es : List Entry) (done refused : ℕ) (e : ImportEnding) → q ≡ Import es → (after, refused) ≡ imported h (take done es) →
    (e ≡ importing.Memory → IsSomeAnd (slice_get es done) (IsChange (imported h (take done es)).0)) → (e ≡ importing.Done → done ≡ length es) →
    Obeys rules h q (Imported done refused e) after
import_obeys rules h after q es done refused e k is growing all =
    subst (λ v. Obeys rules h v (Imported done refused e) after) (sym k) (imported_by rules h after es done refused e is growing all)

-- a save
saved_by : (rules : Rules) (h after : Held) (r : Result Side Memory) → IfOk r (λ s. s ≡ side_of h) → OnOk r (after ≡ saved h) → OnErr r (after ≡ h) →
    OnErr r (last_saved (side_of h) h.marks ≡ false) → Obeys rules h Save (Saved (side_in r)) after
unfolding answer_to MayBe
saved_by rules h after (Ok s) side done kept only = record { note = Through; may = tt; reply_is = ap (λ (v : Side). Saved (Some v)) side; left = done }
saved_by rules h after (Err memory) side done kept only = record { note = Refused; may = only; reply_is = refl; left = kept }

pub save_obeys : (rules : Rules) (h after : Held) (q : Request) (r : Result Side Memory) → q ≡ Save → IfOk r (λ s. s ≡ side_of h) → OnOk r (after ≡ saved h) → OnErr r (after ≡ h) →
    OnErr r (last_saved (side_of h) h.marks ≡ false) → Obeys rules h q (Saved (side_in r)) after
save_obeys rules h after q r e side done kept only = subst (λ v. Obeys rules h v (Saved (side_in r)) after) (sym e) (saved_by rules h after r side done kept only)

-- a print
printed_by : (rules : Rules) (h : Held) (r : Result (Vec ℕ Global) Memory) → IfOk r (λ text. text.items ≡ listing h.now.env) → Obeys rules h Print (Printed (text_in r)) h
unfolding answer_to MayBe
printed_by rules h (Ok text) is = record { note = Through; may = tt; reply_is = ap (λ v. Printed (Some v)) is; left = refl }
printed_by rules h (Err memory) is = record { note = Refused; may = tt; reply_is = refl; left = refl }

pub print_obeys : (rules : Rules) (h : Held) (q : Request) (r : Result (Vec ℕ Global) Memory) (vars : Environment) → q ≡ Print → vars ≡ h.now.env → IfOk r (λ text. text.items ≡ listing vars) →
    Obeys rules h q (Printed (text_in r)) h
print_obeys rules h q r vars e same is =
    subst (λ v. Obeys rules h v (Printed (text_in r)) h) (sym e) (printed_by rules h r (subst (λ v. IfOk r (λ text. text.items ≡ listing v)) same is))

-- a mark
marked_by : (rules : Rules) (h after : Held) (r : Result ℕ MarkFault) → ((r ≡ Err Full) ↔ (most_marks < length h.marks)) → IfOk r (λ n. n ≡ length h.marks) →
    OnOk r (after ≡ marked h) → OnErr r (after ≡ h) → Obeys rules h Mark (Marked r) after
unfolding answer_to MayBe
marked_by rules h after (Ok n) full number done kept =
    elim (nat_lt most_marks (length h.marks)) as (λ b. nat_lt most_marks (length h.marks) ≡ b → Obeys rules h Mark (Marked (Ok n)) after) [
      | true ↦ λ e. let never = full.1 (ltb-true most_marks (length h.marks) e) in absurd (not_full never)
      | false ↦ λ e. record {
        note = Through;
        may = tt;
        reply_is = ap (λ (v : ℕ). Marked (Ok v)) number ∙ sym (ap (λ b. (cond b (gives (Marked (Err Full)) h) (gives (Marked (Ok (length h.marks))) (marked h))).reply) e);
        left = done ∙ sym (ap (λ b. (cond b (gives (Marked (Err Full)) h) (gives (Marked (Ok (length h.marks))) (marked h))).left) e);
      }
    ] refl
  where
    not_full : Ok n ≡ Err Full → ⊥
    not_full e = cc
marked_by rules h after (Err Full) full number done kept =
    let e = lt-ltb most_marks (length h.marks) (full.0 refl) in
    record {
      note = Through;
      may = tt;
      reply_is = sym (ap (λ b. (cond b (gives (Marked (Err Full)) h) (gives (Marked (Ok (length h.marks))) (marked h))).reply) e);
      left = kept ∙ sym (ap (λ b. (cond b (gives (Marked (Err Full)) h) (gives (Marked (Ok (length h.marks))) (marked h))).left) e);
    }

pub mark_obeys : (rules : Rules) (h after : Held) (q : Request) (r : Result ℕ MarkFault) → q ≡ Mark → ((r ≡ Err Full) ↔ (most_marks < length h.marks)) → IfOk r (λ n. n ≡ length h.marks) →
    OnOk r (after ≡ marked h) → OnErr r (after ≡ h) → Obeys rules h q (Marked r) after
mark_obeys rules h after q r e full number done kept = subst (λ v. Obeys rules h v (Marked r) after) (sym e) (marked_by rules h after r full number done kept)

-- an undo
record UndoAnswered (n : ℕ) (h after : Held) (r : Result (Unit {0}) UndoFault) : Type 0 where
  note : Note
  may : UndoNote n h note
  reply_is : Undone r ≡ (undo_answer n h note).reply
  left : after ≡ (undo_answer n h note).left

abbrev if_there : ℕ → Held → Bool → Answer
if_there n h b = cond b (gives (Undone (Ok tt)) (undone n h)) (gives (Undone (Err undo.Gone)) h)

undone_by : (n : ℕ) (h after : Held) (r : Result (Unit {0}) UndoFault) → UndoesTo n h after r → UndoAnswered n h after r
undone_by n h after (Ok u) did =
    let e = lt-ltb n (length h.marks) did.0 in
    record { note = Through; may = tt; reply_is = sym (ap (λ b. (if_there n h b).reply) e); left = did.1 ∙ sym (ap (λ b. (if_there n h b).left) e) }
undone_by n h after (Err undo.Gone) did =
    let e = le-ltb n (length h.marks) did.0 in
    record { note = Through; may = tt; reply_is = sym (ap (λ b. (if_there n h b).reply) e); left = did.1 ∙ sym (ap (λ b. (if_there n h b).left) e) }
undone_by n h after (Err undo.Memory) did =
    record { note = Stopped did.0; may = subst (λ v. IsStoppedUndo n h v did.0) did.1.left did.1; reply_is = refl; left = did.1.left }

pub undo_obeys : (rules : Rules) (h after : Held) (q : Request) (r : Result (Unit {0}) UndoFault) → q ≡ Undo → UndoesTo 0 h after r → Obeys rules h q (Undone r) after
unfolding answer_to MayBe
undo_obeys rules h after q r e did =
    let u = undone_by 0 h after r did in
    subst (λ v. Obeys rules h v (Undone r) after) (sym e) (record { note = u.note; may = u.may; reply_is = u.reply_is; left = u.left })

pub undo_to_obeys : (rules : Rules) (h after : Held) (q : Request) (n : ℕ) (r : Result (Unit {0}) UndoFault) → q ≡ UndoTo n → UndoesTo n h after r → Obeys rules h q (Undone r) after
unfolding answer_to MayBe
undo_to_obeys rules h after q n r e did =
    let u = undone_by n h after r did in
    subst (λ v. Obeys rules h v (Undone r) after) (sym e) (record { note = u.note; may = u.may; reply_is = u.reply_is; left = u.left })

-- the lines of a print
abbrev pub ended_lines : List (List ℕ) → List ℕ
ended_lines lines = flat_map (λ line. line ++ 10 ∷ []) lines

lines_joined : (ps : List Pair) → ended_lines (map (λ p. p.0 ++ 61 ∷ p.1) ps) ≡ flat_map line_of ps
lines_joined [] = refl
lines_joined (p ∷ ps) = ap (λ t. t ++ ended_lines (map (λ q. q.0 ++ 61 ∷ q.1) ps)) (append_assoc p.0 (61 ∷ p.1) (10 ∷ [])) ∙ ap (λ t. line_of p ++ t) (lines_joined ps)

pub lines_begin : (vars : Environment) (text : List ℕ) (lines : List (List ℕ)) → text ≡ [] → lines ≡ map (λ p. p.0 ++ 61 ∷ p.1) (env.entries vars) → listing vars ≡ text ++ ended_lines lines
unfolding listing
lines_begin vars text lines none is = sym (ap (λ t. t ++ ended_lines lines) none ∙ ap ended_lines is ∙ lines_joined (env.entries vars))

pub lines_go_on : (all text line : List ℕ) (lines rest : List (List ℕ)) → all ≡ text ++ ended_lines lines → lines ≡ line ∷ rest → all ≡ ((text ++ line) ++ 10 ∷ []) ++ ended_lines rest
lines_go_on all text line lines rest so_far step =
    so_far ∙ ap (λ v. text ++ ended_lines v) step
    ∙ ap (λ v. text ++ v) (append_assoc line (10 ∷ []) (ended_lines rest))
    ∙ sym (append_assoc text line (10 ∷ ended_lines rest))
    ∙ sym (append_assoc (text ++ line) (10 ∷ []) (ended_lines rest))
