-- After a `.undo` that is the last line and for which `[Undone]` was printed, all is as it was at the opening.
use Rattle.std.proofs.Common.{◌≡◌, ℕ, ◌<◌, List, [], ◌∷◌, ◌++◌, length, drop, get_or, cond, Bool, true, false, Option, Some, None, Ok, Err, refl, sym, ap, subst, ◌∙◌, arith, append_assoc, append-nil, length-append}
use Rattle.std.specs.Prelude.{nat_lt}
use Rattle.std.specs.Io.KnownBytes.{Appends, Consumes, IsAtEnd}
use Rattle.std.proofs.Math.Seq.{drop-append_seam}
use Rattle.std.proofs.lemmas.Bool.{ltb-false}
use Rattle.env_session.specs.Session.{Held, opening, undone}
use Rattle.env_session.specs.Laws.{IsSameState}
use Rattle.env_session.specs.declared.undo.UndoFault.TheVariants.{Gone}
use Rattle.hush_run.specs.Meaning.{Rules}
use Rattle.env_requests.specs.Requests.{Request, Reply, Undo, Note, Through, Refused, Stopped, Undone, Answer, gives, answer_to, MayBe}
use Rattle.env_requests.proofs.KeepLemmas.{marks_stand, undo_restores, spares_opening}
use Rattle.fw_session.specs.Input.{Item, Dot, items_of}
use Rattle.fw_session.specs.Asked.{Asked, Asks, no_memory, asked_by, asked_by_line}
use Rattle.fw_session.specs.Turns.{NamedSession, undone_text, text_of, done, turn, turns, MayDo, MayStand, AllStand, requests_of, replies_of}
use Rattle.fw_session.specs.Ends.{AllAnswered, Ends, LastUndoRestores}
use Rattle.fw_session.specs.declared.session_end.SessionEnding.{SessionEnding}
use Rattle.fw_session.specs.declared.session_end.SessionEnding.TheVariants.{Done, ReadFault, TooLong, WriteFault, Memory}
use Rattle.fw_session.proofs.ListLemmas.{Requested, turns_requested}

-- the last of some items
record Last (rules : Rules) (t : NamedSession) (items : List Item) (item : Item) (notes : List Note) : Type 0 where
  before : List Note
  note : Note
  stand : AllStand rules t items before
  may : MayStand rules (turns rules t items before).session item note
  text : (turns rules t (items ++ item ∷ []) notes).text ≡ (turns rules t items before).text ++ (turn rules (turns rules t items before).session item note).text
  session : (turns rules t (items ++ item ∷ []) notes).session ≡ (turn rules (turns rules t items before).session item note).session

last_of : (rules : Rules) (items : List Item) (item : Item) (t : NamedSession) (notes : List Note) → AllStand rules t (items ++ item ∷ []) notes → Last rules t items item notes
unfolding turns AllStand
last_of rules [] item t [] stand = absurd stand
last_of rules [] item t (n ∷ []) stand = record { before = []; note = n; stand = tt; may = stand.0; text = append-nil (turn rules t item n).text; session = refl }
last_of rules [] item t (n ∷ m ∷ notes) stand = absurd stand.1
last_of rules (x ∷ items) item t [] stand = absurd stand
last_of rules (x ∷ items) item t (n ∷ notes) stand =
    let s = (turn rules t x n).session in
    let l = last_of rules items item s notes stand.1 in
    record {
      before = n ∷ l.before;
      note = l.note;
      stand = (stand.0, l.stand);
      may = l.may;
      text =
          ap (λ v. (turn rules t x n).text ++ v) l.text
          ∙ sym (append_assoc (turn rules t x n).text (turns rules s items l.before).text (turn rules (turns rules s items l.before).session item l.note).text);
      session = l.session;
    }

-- two texts of the same length at the end of one
same_end : (a b c d : List ℕ) → length b ≡ length d → a ++ b ≡ c ++ d → b ≡ d
same_end a b c d long e =
    let n : length a ≡ length c = omega (arith, ap length e, length-append a b, length-append c d, long) in
    sym (drop-append_seam a b) ∙ ap (drop (length a)) e ∙ ap (λ (k : ℕ). drop k (c ++ d)) n ∙ drop-append_seam c d

other_text : no_memory ≡ undone_text → ⊥
other_text e = let bytes : 77 ≡ 85 = ap (λ v. get_or v 1 0) e in omega (arith, bytes)

-- an undo of everything, for which `[Undone]` was printed
abbrev if_there : Held → Bool → Answer
if_there h b = cond b (gives (Undone (Ok tt)) (undone 0 h)) (gives (Undone (Err Gone)) h)

undo_left : (rules : Rules) (h : Held) (note : Note) (front printed : List ℕ) → 0 < length h.marks → MayBe rules h Undo note →
    front ++ text_of (answer_to rules h Undo note).left.now.env (answer_to rules h Undo note).reply ≡ printed ++ undone_text → (answer_to rules h Undo note).left ≡ undone 0 h
unfolding answer_to MayBe
undo_left rules h Through front printed some may e =
    elim (nat_lt 0 (length h.marks)) as (λ b. nat_lt 0 (length h.marks) ≡ b → (if_there h b).left ≡ undone 0 h) [
      | true ↦ λ l. refl
      | false ↦ λ l. (let le = ltb-false 0 (length h.marks) l in absurd (omega (arith, le, some)))
    ] refl
undo_left rules h Refused front printed some may e = absurd may
undo_left rules h (Stopped k) front printed some may e = absurd (other_text (same_end front no_memory printed undone_text refl e))

restored : (rules : Rules) (h : Held) (t : NamedSession) (note : Note) (asked : Asked) (front printed : List ℕ) (requests : List Request) (told : List Reply) → 0 < length h.marks → Requested rules h t.held requests told → asked ≡ Asks Undo None → MayDo rules t asked note →
    front ++ (done rules t asked note).text ≡ printed ++ undone_text → IsSameState (opening h) (done rules t asked note).session.held.now
restored rules h t note asked front printed requests told some r is may e =
    let may' : MayBe rules t.held Undo note = subst (λ v. MayDo rules t v note) is may in
    let text : front ++ (done rules t (Asks Undo None) note).text ≡ printed ++ undone_text = subst (λ v. front ++ (done rules t v note).text ≡ printed ++ undone_text) is e in
    let there : 0 < length t.held.marks = subst (λ (v : Held). 0 < length v.marks) (sym r.left) (marks_stand rules h requests r.notes 0 some (spares_opening requests) r.may).0 in
    let same : IsSameState (opening h) (undone 0 t.held).now = subst (λ (v : Held). IsSameState (opening h) (undone 0 v).now) (sym r.left) (undo_restores rules h requests r.notes some r.may) in
    let left : (answer_to rules t.held Undo note).left ≡ undone 0 t.held = undo_left rules t.held note front printed there may' text in
    subst (λ v. IsSameState (opening h) (done rules t v note).session.held.now) (sym is) (subst (λ (v : Held). IsSameState (opening h) v.now) (sym left) same)

-- what was read and written, of streams that are known
whole_input : (bytes all : List ℕ) (input' : Option (List ℕ)) → Consumes (Some all) input' bytes → IsAtEnd input' → all ≡ bytes
whole_input bytes all None took end = absurd took
whole_input bytes all (Some rest) took end = took ∙ ap (λ v. bytes ++ v) end ∙ append-nil bytes

whole_output : (begun after text : List ℕ) → Appends (Some begun) (Some after) text → after ≡ begun ++ text
whole_output begun after text e = e

last_restored : (rules : Rules) (h h' : NamedSession) (items : List Item) (line begun printed : List ℕ) (n n' : ℕ) → 0 < length h.held.marks → asked_by_line line ≡ Asks Undo None →
    AllAnswered rules h (items ++ Dot line ∷ []) (Some begun) (Some (printed ++ undone_text)) n n' h' → IsSameState (opening h.held) h'.held.now
unfolding turn MayStand asked_by
last_restored rules h h' items line begun printed n n' some is a =
    let l = last_of rules items (Dot line) h a.notes a.stand in
    let t = (turns rules h items l.before).session in
    let text : printed ++ undone_text ≡ (begun ++ (turns rules h items l.before).text) ++ (turn rules t (Dot line) l.note).text =
    a.text ∙ ap (λ v. begun ++ v) l.text ∙ sym (append_assoc begun (turns rules h items l.before).text (turn rules t (Dot line) l.note).text) in
    let r : Requested rules h.held t.held (requests_of rules h items l.before) (replies_of rules h items l.before) = turns_requested rules items l.before h l.stand in
    subst (λ v. IsSameState (opening h.held) v.held.now) (sym (a.session ∙ l.session))
    (restored rules h.held t l.note (asked_by_line line) (begun ++ (turns rules h items l.before).text) printed _ _ some r is l.may (sym text))

pub ends_restored : (e : SessionEnding) (rules : Rules) (h h' : NamedSession) (i i' o o' : Option (List ℕ)) (r w : ℕ) → 0 < length h.held.marks → Ends e rules h i i' o o' r w h' → LastUndoRestores e h.held i o o' h'.held
ends_restored Done rules h h' i i' o o' r w some ends bytes line begun printed items e is cut undo out out' =
    let took : Consumes (Some bytes) i' ends.0 = subst (λ v. Consumes v i' ends.0) is ends.1.0 in
    let all : items_of ends.0 ≡ items ++ Dot line ∷ [] = ap items_of (sym (whole_input ends.0 bytes i' took ends.2)) ∙ cut in
    let a1 : AllAnswered rules h (items ++ Dot line ∷ []) o o' 0 w h' = subst (λ v. AllAnswered rules h v o o' 0 w h') all ends.3 in
    let a2 : AllAnswered rules h (items ++ Dot line ∷ []) (Some begun) o' 0 w h' = subst (λ v. AllAnswered rules h (items ++ Dot line ∷ []) v o' 0 w h') out a1 in
    last_restored rules h h' items line begun printed 0 w some undo (subst (λ v. AllAnswered rules h (items ++ Dot line ∷ []) (Some begun) v 0 w h') out' a2)
ends_restored ReadFault rules h h' i i' o o' r w some ends bytes line begun printed items e is cut undo out out' = absurd (cc)
ends_restored TooLong rules h h' i i' o o' r w some ends bytes line begun printed items e is cut undo out out' = absurd (cc)
ends_restored WriteFault rules h h' i i' o o' r w some ends bytes line begun printed items e is cut undo out out' = absurd (cc)
ends_restored Memory rules h h' i i' o o' r w some ends bytes line begun printed items e is cut undo out out' = absurd (cc)
