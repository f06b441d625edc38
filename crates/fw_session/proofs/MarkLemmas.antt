-- The marks of a session and the table of their names.
use Rattle.std.proofs.Common.{◌≡◌, ℕ, ◌+◌, ◌≤◌, List, [], ◌∷◌, ◌++◌, length, take, cond, true, false, Option, Some, None, Ok, Err, refl, sym, ap, ◌∙◌, arith}
use Rattle.std.specs.Prelude.{replicate, nat_lt, min}
use Rattle.std.proofs.lemmas.Bool.{ltb-true, ltb-false}
use Rattle.std.proofs.lemmas.List.{map-append, take-map, take_all}
use Rattle.std.proofs.lemmas.Grind.{replicate_next}
use Rattle.arrayvec.specs.ArrayVec.{ArrayVec}
use Rattle.env_session.specs.Session.{Held, marked, most_marks, undone}
use Rattle.env_session.specs.declared.marks.MarkFault.TheVariants.{Full}
use Rattle.env_session.specs.declared.undo.UndoFault.TheVariants.{Gone}
use Rattle.hush_run.specs.Meaning.{Rules}
use Rattle.env_requests.specs.Requests.{Request, Run, Write, Import, Save, Print, Mark, Undo, UndoTo, Note, Through, Refused, Stopped, Reply, Marked, Undone, gives, answer_to, mark_answer, undo_answer}
use Rattle.env_requests.specs.Views.{Obeys}
use Rattle.fw_session.specs.Turns.{standing, number_in, names_after}
use Rattle.fw_session.specs.NamedSessions.{names_of, named_session, IsLowMark}
use Rattle.fw_session.specs.Views.{name_of}

-- a list of names with one more
names_more : (names : List (Option (ArrayVec ℕ))) (name : Option (ArrayVec ℕ)) → names_of (names ++ name ∷ []) ≡ names_of names ++ name_of name ∷ []
names_more names name = map-append name_of names (name ∷ [])

pub one_unnamed : (names names' : List (Option (ArrayVec ℕ))) (n : ℕ) → names_of names ≡ replicate n None → names' ≡ names ++ None ∷ [] → names_of names' ≡ replicate (n + 1) None
one_unnamed names names' n was is = ap names_of is ∙ names_more names None ∙ ap (λ v. v ++ None ∷ []) was ∙ sym (replicate_next n None)

-- the first names are those of the marks that exist
pub names_taken : (names shown : List (Option (ArrayVec ℕ))) (h : Held) (k : ℕ) → shown ≡ take k names → take k names ≡ take (length h.marks) names → names_of shown ≡ standing (named_session h (names_of names))
names_taken names shown h k is same = ap names_of (is ∙ same) ∙ sym (take-map name_of (length h.marks) names)

pub first_taken : {A : Type 0} (xs ys : List A) (k n m : ℕ) → ys ≡ xs → k ≡ min (length ys) n → n ≡ m → take k xs ≡ take m xs
first_taken xs ys k n m same is e =
    let few : k ≡ min (length xs) n = is ∙ ap (λ v. min (length v) n) same in
    elim (nat_lt n (length xs)) as (λ b. nat_lt n (length xs) ≡ b → take k xs ≡ take m xs) [
      | true ↦ λ l. (let lt = ltb-true n (length xs) l in let k_is : k ≡ m = omega (arith, lt, few, e) in ap (λ (v : ℕ). take v xs) k_is)
      | false ↦ λ l. (let le = ltb-false n (length xs) l in take_all k xs (omega (arith, le, few)) ∙ sym (take_all m xs (omega (arith, le, e))))
    ] refl

-- the mark of this number has this name
pub named : (names cut names' : List (Option (ArrayVec ℕ))) (name : Option (ArrayVec ℕ)) (n : ℕ) (number : Option ℕ) → number ≡ Some n → cut ≡ take n names → names' ≡ cut ++ name ∷ [] → names_of names' ≡ names_after number (name_of name) (names_of names)
named names cut names' name n number e c is =
    ap names_of is ∙ names_more cut name ∙ ap (λ v. names_of v ++ name_of name ∷ []) c ∙ ap (λ v. v ++ name_of name ∷ []) (sym (take-map name_of n names))
    ∙ sym (ap (λ v. names_after v (name_of name) (names_of names)) e)

-- no request makes a mark of a greater number
low_mark : (h : Held) (n : ℕ) → number_in (mark_answer h).reply ≡ Some n → n ≤ 64
low_mark h n e =
    elim (nat_lt most_marks (length h.marks)) as (λ b. nat_lt most_marks (length h.marks) ≡ b → number_in (cond b (gives (Marked (Err Full)) h) (gives (Marked (Ok (length h.marks))) (marked h))).reply ≡ Some n → n ≤ 64) [
      | true ↦ λ l is. absurd (cc)
      | false ↦ λ l is. (let le = ltb-false most_marks (length h.marks) l in let same : length h.marks ≡ n = cc in omega (arith, le, same))
    ] refl e

low_undo : (m : ℕ) (h : Held) (note : Note) (n : ℕ) → number_in (undo_answer m h note).reply ≡ Some n → n ≤ 64
low_undo m h Through n e =
    elim (nat_lt m (length h.marks)) as (λ b. number_in (cond b (gives (Undone (Ok tt)) (undone m h)) (gives (Undone (Err Gone)) h)).reply ≡ Some n → n ≤ 64) [
      | true ↦ λ is. absurd (cc)
      | false ↦ λ is. absurd (cc)
    ] e
low_undo m h Refused n e = absurd (cc)
low_undo m h (Stopped k) n e = absurd (cc)

low_answer : (rules : Rules) (h : Held) (r : Request) (note : Note) (n : ℕ) → number_in (answer_to rules h r note).reply ≡ Some n → n ≤ 64
unfolding answer_to
low_answer rules h (Run tree) Through n e = absurd (cc)
low_answer rules h (Run tree) Refused n e = absurd (cc)
low_answer rules h (Run tree) (Stopped k) n e = absurd (cc)
low_answer rules h (Write name new force) Through n e = absurd (cc)
low_answer rules h (Write name new force) Refused n e = absurd (cc)
low_answer rules h (Write name new force) (Stopped k) n e = absurd (cc)
low_answer rules h (Import entries) Through n e = absurd (cc)
low_answer rules h (Import entries) Refused n e = absurd (cc)
low_answer rules h (Import entries) (Stopped k) n e = absurd (cc)
low_answer rules h Save Through n e = absurd (cc)
low_answer rules h Save Refused n e = absurd (cc)
low_answer rules h Save (Stopped k) n e = absurd (cc)
low_answer rules h Print Through n e = absurd (cc)
low_answer rules h Print Refused n e = absurd (cc)
low_answer rules h Print (Stopped k) n e = absurd (cc)
low_answer rules h Mark note n e = low_mark h n e
low_answer rules h Undo note n e = low_undo 0 h note n e
low_answer rules h (UndoTo m) note n e = low_undo m h note n e

pub is_low : (rules : Rules) (h h' : Held) (r : Request) (reply : Reply) → Obeys rules h r reply h' → IsLowMark (number_in reply)
is_low rules h h' r reply o n e = low_answer rules h r o.note n (ap number_in (sym o.reply_is) ∙ e)
