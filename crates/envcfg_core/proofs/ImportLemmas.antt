-- The entries of a text, one step at a time.
use Rattle.std.proofs.Common.{◌≡◌, ℕ, zero, suc, ◌+◌, ◌-◌, ◌<◌, ◌≤◌, ◌||◌, Bool, true, false, cond, eqb, List, [], ◌∷◌, ◌++◌, length, take, drop, Option, Ok, Err, refl, sym, ap, ◌∙◌, subst, arith}
use Rattle.std.specs.List.{position_or_len, before_first, after_first, list_any}
use Rattle.envimg_core.specs.Environment.{is_zero}
use Rattle.std.proofs.lemmas.Bool.{or_parts, cond-true, cond-false, eqb-true}
use Rattle.std.proofs.lemmas.List.{append_assoc, append-nil, length-drop}
use Rattle.envcfg_core.specs.declared.entry.TextFault.{TextFault}
use Rattle.envcfg_core.specs.declared.entry.TextFault.TheVariants.{EmptyName, Nul, Memory}
use Rattle.envimg_core.specs.Bytes.{equals}
use Rattle.envcfg_core.specs.Bytes.{some_unless_empty}
use Rattle.text_parts.specs.Bytes.{is_newline, is_blank, hash, begins}
use Rattle.envcfg_core.specs.Entries.{Entry, Outcome, with_first, IsFaultOf}
use Rattle.envcfg_core.specs.ImportSteps.{with_front}
use Rattle.envcfg_core.specs.Import.{Spelled, spelled, with_byte, ended_by_newline, behind_name, ends_name, entry_first, skip_or_entry, is_skipped, entries_within, entries_from, import_of}

same_cond : {X : Type 0} (b : Bool) (x y v w : X) → x ≡ v → y ≡ w → cond b x y ≡ cond b v w
same_cond true x y v w e f = e
same_cond false x y v w e f = f

cond_rest : (b : Bool) (v w : Spelled) (n : ℕ) → length v.rest ≤ n → length w.rest ≤ n → length (cond b v w).rest ≤ n
cond_rest true v w n h i = h
cond_rest false v w n h i = i

-- what follows a value is no longer than its text, and what follows a name is shorter than what is after it
pub length-spelled : (escaped : Bool) (text : List ℕ) → length (spelled escaped text).rest ≤ length text
length-spelled false [] = omega arith
length-spelled true [] = omega arith
length-spelled true (b ∷ bs) = omega (arith, length-spelled false bs)
length-spelled false (b ∷ bs) =
    cond_rest (is_newline b) (ended_by_newline bs) _ (suc (length bs)) (omega arith)
    (cond_rest (eqb b 92) (spelled true bs) (with_byte b (spelled false bs)) (suc (length bs)) (omega (arith, length-spelled true bs)) (omega (arith, length-spelled false bs)))

pub length-behind_name : (text : List ℕ) → length (behind_name text).rest ≤ length text - 1
length-behind_name [] = omega arith
length-behind_name (b ∷ bs) =
    let n : length bs ≤ suc (length bs) - 1 = omega arith in
    let m : length (spelled false bs).rest ≤ suc (length bs) - 1 = omega (arith, length-spelled false bs) in
    cond_rest (eqb b equals) (spelled false bs) (ended_by_newline bs) (suc (length bs) - 1) m n

-- a step reads the same if the readers of the rest agree on what is shorter
same_step : (f g : ℕ → List ℕ → Outcome) (line : ℕ) (text : List ℕ) →
    ((l : ℕ) (t : List ℕ) → length t < length text → f l t ≡ g l t) → skip_or_entry f line text ≡ skip_or_entry g line text
same_step f g line [] agree = refl
same_step f g line (b ∷ bs) agree =
    let text = b ∷ bs in
    let behind = drop (position_or_len ends_name text) text in
    let value = behind_name behind in
    let e : Entry = record { name = before_first ends_name text; value = some_unless_empty value.bytes; line = line } in
    let after : length (after_first is_newline bs) < suc (length bs) = omega (arith, length-drop (position_or_len is_newline bs + 1) bs) in
    let rest : length value.rest < suc (length bs) = omega (arith, length-behind_name behind, length-drop (position_or_len ends_name text) text) in
    same_cond (is_blank b) _ _ _ _ (agree line bs (omega arith))
    (same_cond (is_newline b) _ _ _ _ (agree (line + 1) bs (omega arith))
    (same_cond (eqb b hash) _ _ _ _ (agree (line + 1) (after_first is_newline bs) after)
    (ap (λ later. cond (eqb (length (before_first ends_name text)) 0) (Err (EmptyName line)) (with_first e later)) (agree (line + value.newlines) value.rest rest))))

-- as many steps as the text has bytes are enough
enough : (m n line : ℕ) (text : List ℕ) → length text ≤ m → length text ≤ n → entries_within m line text ≡ entries_within n line text
unfolding entries_within
enough zero zero line text h i = refl
enough zero (suc n) line [] h i = refl
enough zero (suc n) line (b ∷ bs) h i = absurd (omega arith)
enough (suc m) zero line [] h i = refl
enough (suc m) zero line (b ∷ bs) h i = absurd (omega arith)
enough (suc m) (suc n) line text h i =
    same_step (entries_within m) (entries_within n) line text (λ l t s. enough m n l t (omega arith) (omega arith))

-- the entries of a text are one step, and the entries of what is left
pub entries_from-step : (line : ℕ) (text : List ℕ) → entries_from line text ≡ skip_or_entry entries_from line text
unfolding entries_from entries_within
entries_from-step line [] = refl
entries_from-step line (b ∷ bs) =
    same_step (entries_within (length bs)) entries_from line (b ∷ bs) (λ l t s. enough (length bs) (length t) l t (omega arith) (omega arith))

pub entries_from-nil : (line : ℕ) → entries_from line [] ≡ Ok []
entries_from-nil line = entries_from-step line []

-- at an entry's place
pub entries_from-entry : (line b : ℕ) (bs : List ℕ) → is_skipped b ≡ false → entries_from line (b ∷ bs) ≡ entry_first entries_from line (b ∷ bs)
entries_from-entry line b bs h =
    let parts = or_parts (is_blank b || is_newline b) (eqb b hash) h in
    let blanks = or_parts (is_blank b) (is_newline b) parts.0 in
    entries_from-step line (b ∷ bs) ∙ cond-false _ _ _ blanks.0 ∙ cond-false _ _ _ blanks.1 ∙ cond-false _ _ _ parts.1

pub entries_from-place : (line : ℕ) (text : List ℕ) → 0 < length text → begins is_skipped text ≡ false → entries_from line text ≡ entry_first entries_from line text
entries_from-place line [] some h = absurd (omega arith)
entries_from-place line (b ∷ bs) some h = entries_from-entry line b bs h

-- entries before those of the rest
pub with_front-push : (entries : List Entry) (e : Entry) (outcome : Outcome) → with_front (entries ++ e ∷ []) outcome ≡ with_front entries (with_first e outcome)
with_front-push entries e (Ok later) = ap Ok (append_assoc entries (e ∷ []) later)
with_front-push entries e (Err fault) = refl

pub with_front-nil : (outcome : Outcome) → outcome ≡ with_front [] outcome
with_front-nil (Ok later) = refl
with_front-nil (Err fault) = refl

-- a fault of the rest is the fault of the whole
pub IsFaultOf-with_front : (entries : List Entry) (outcome whole : Outcome) (fault : TextFault) →
    whole ≡ with_front entries outcome → IsFaultOf outcome fault → IsFaultOf whole fault
IsFaultOf-with_front entries outcome whole (EmptyName line) e h = e ∙ ap (with_front entries) h
IsFaultOf-with_front entries outcome whole Nul e h = e ∙ ap (with_front entries) h
IsFaultOf-with_front entries outcome whole Memory e h = tt

-- an entry at the front of a text, as the code takes it apart
pub entry_without_name : (line n : ℕ) (text name : List ℕ) → 0 < length text → begins is_skipped text ≡ false →
    n ≡ position_or_len ends_name text → name ≡ take n text → eqb (length name) 0 ≡ true → entries_from line text ≡ Err (EmptyName line)
entry_without_name line n text name some h e f none =
    let is : name ≡ before_first ends_name text = f ∙ ap (λ k. take k text) e in
    let P : List ℕ → Type 0 = λ xs. eqb (length xs) 0 ≡ true in
    entries_from-place line text some h ∙ cond-true _ _ _ (subst P is none)

pub entry_with_name : (line n : ℕ) (text name behind : List ℕ) (v : Spelled) (value : Option (List ℕ)) → 0 < length text → begins is_skipped text ≡ false →
    n ≡ position_or_len ends_name text → name ≡ take n text → behind ≡ drop n text → eqb (length name) 0 ≡ false →
    v ≡ behind_name behind → value ≡ some_unless_empty v.bytes →
    entries_from line text ≡ with_first (record { name = name; value = value; line = line }) (entries_from (line + v.newlines) v.rest)
entry_with_name line n text name behind v value some h e f g named spelt valued =
    let P : List ℕ → Type 0 = λ xs. eqb (length xs) 0 ≡ false in
    let N = before_first ends_name text in
    let V = behind_name (drop (position_or_len ends_name text) text) in
    let name_is : name ≡ N = f ∙ ap (λ k. take k text) e in
    let v_is : v ≡ V = spelt ∙ ap behind_name (g ∙ ap (λ k. drop k text) e) in
    let value_is : value ≡ some_unless_empty V.bytes = valued ∙ ap (λ (w : Spelled). some_unless_empty w.bytes) v_is in
    let F : List ℕ → Spelled → Option (List ℕ) → Outcome = λ x w y. with_first (record { name = x; value = y; line = line }) (entries_from (line + w.newlines) w.rest) in
    entries_from-place line text some h ∙ cond-false _ _ _ (subst P name_is named)
    ∙ sym (ap (λ x. F x v value) name_is ∙ ap (λ w. F N w value) v_is ∙ ap (F N V) value_is)

-- what is skipped at an entry's place
pub entries_from-blank : (line b : ℕ) (text bs : List ℕ) → text ≡ b ∷ bs → is_blank b ≡ true → entries_from line text ≡ entries_from line bs
entries_from-blank line b text bs e h = ap (entries_from line) e ∙ entries_from-step line (b ∷ bs) ∙ cond-true _ _ _ h

pub entries_from-newline : (line b : ℕ) (text bs : List ℕ) → text ≡ b ∷ bs → b ≡ 10 → entries_from line text ≡ entries_from (line + 1) bs
entries_from-newline line b text bs e h =
    ap (entries_from line) (e ∙ ap (λ x. x ∷ bs) h) ∙ entries_from-step line (10 ∷ bs)

pub entries_from-comment : (line b : ℕ) (text bs rest : List ℕ) → text ≡ b ∷ bs → b ≡ 35 → rest ≡ after_first is_newline bs →
    entries_from line text ≡ entries_from (line + 1) rest
entries_from-comment line b text bs rest e h r =
    ap (entries_from line) (e ∙ ap (λ x. x ∷ bs) h) ∙ entries_from-step line (35 ∷ bs) ∙ ap (entries_from (line + 1)) (sym r)

-- the whole text is read if nothing is left
pub import_read : (text rest : List ℕ) (line : ℕ) (entries : List Entry) → list_any is_zero text ≡ false →
    entries_from 1 text ≡ with_front entries (entries_from line rest) → eqb (length rest) 0 ≡ true → import_of text ≡ Ok entries
import_read text [] line entries no_zero read h =
    cond-false _ _ _ no_zero ∙ read ∙ ap (with_front entries) (entries_from-nil line) ∙ ap Ok (append-nil entries)
import_read text (b ∷ bs) line entries no_zero read h = absurd (omega (arith, eqb-true (length (b ∷ bs)) 0 h))
