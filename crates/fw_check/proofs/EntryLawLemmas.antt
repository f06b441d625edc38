-- Each value of a text for import is spelled behind the first `=` of its entry's line.
use Rattle.std.proofs.Common.{◌≡◌, ◌⊎◌, ◌≤◌, ℕ, zero, suc, ◌+◌, ◌-◌, Bool, true, false, ◌||◌, List, [], ◌∷◌, length, drop, Option, Some, None, refl, sym, ap, ◌∙◌, arith, subst, eqb, inl, inr, ⊎_elim, if◌then◌else◌}
use Rattle.std.specs.Prelude.{Ok, Err}
use Rattle.std.specs.List.{after_first, before_first, list_any, position_or_len}
use Rattle.std.proofs.lemmas.Bool.{cases_Bool, or_parts, cond-true, cond-false, eqb-true}
use Rattle.envcfg_core.specs.Bytes.{some_unless_empty}
use Rattle.envcfg_core.specs.Entries.{Entry, Outcome, with_first}
use Rattle.envcfg_core.specs.Import.{Spelled, behind_name, ends_name, entries_from, entries_within, entry_first, import_of, skip_or_entry, spelled, with_byte}
use Rattle.envcfg_core.specs.declared.entry.TextFault.TheVariants.{EmptyName, Nul}
use Rattle.envimg_core.specs.Environment.{is_equals, is_zero}
use Rattle.text_parts.specs.Bytes.{is_blank, is_newline}
use Rattle.text_parts.proofs.CutLemmas.{position_or_len-no, position_or_len-yes}
use Rattle.fw_check.specs.EntryPlaces.{AreThere, IsThere, after_lines}
use Rattle.fw_check.proofs.EntryPlaceLemmas.{byte-stands, escape-begins, lines-next, lines-none, newline-ends}

-- ---- what is after the first byte that passes

after-yes : (p : ℕ → Bool) (x : ℕ) (xs : List ℕ) → p x ≡ true → after_first p (x ∷ xs) ≡ xs
after-yes p x xs h = ap (λ (n : ℕ). drop (n + 1) (x ∷ xs)) (position_or_len-yes p x xs h)

after-no : (p : ℕ → Bool) (x : ℕ) (xs : List ℕ) → p x ≡ false → after_first p (x ∷ xs) ≡ after_first p xs
after-no p x xs h =
    let k = position_or_len p xs in
    let e : 1 + k + 1 ≡ suc (k + 1) = omega arith in
    ap (λ (n : ℕ). drop (n + 1) (x ∷ xs)) (position_or_len-no p x xs h) ∙ ap (λ (n : ℕ). drop n (x ∷ xs)) e

-- ---- lines

pub lines-more : (n : ℕ) (text : List ℕ) → after_lines (suc n) text ≡ after_first is_newline (after_lines n text)
lines-more zero text = lines-next 0 text ∙ lines-none (after_first is_newline text) ∙ ap (after_first is_newline) (sym (lines-none text))
lines-more (suc n) text =
    lines-next (suc n) text ∙ lines-more n (after_first is_newline text) ∙ ap (after_first is_newline) (sym (lines-next n text))

lines-sum : (m n : ℕ) (text : List ℕ) → after_lines (m + n) text ≡ after_lines n (after_lines m text)
lines-sum m zero text = ap (λ (k : ℕ). after_lines k text) (let e : m + 0 ≡ m = omega arith in e) ∙ sym (lines-none (after_lines m text))
lines-sum m (suc n) text =
    ap (λ (k : ℕ). after_lines k text) (let e : m + suc n ≡ suc (m + n) = omega arith in e)
    ∙ lines-more (m + n) text ∙ ap (after_first is_newline) (lines-sum m n text) ∙ sym (lines-more n (after_lines m text))

-- ---- bytes that are no others

one-or : (b : ℕ) (p : ℕ → Bool) (x y : ℕ) → p x ≡ false → p y ≡ false → (first : Bool) → first ≡ eqb b x → (first || eqb b y) ≡ true → p b ≡ false
one-or b p x y one other true is h = ap p (eqb-true b x (sym is)) ∙ one
one-or b p x y one other false is h = ap p (eqb-true b y h) ∙ other

blank-is-no-equals : (b : ℕ) → is_blank b ≡ true → is_equals b ≡ false
blank-is-no-equals b h = one-or b is_equals 32 9 refl refl (eqb b 32) refl h

blank-is-no-newline : (b : ℕ) → is_blank b ≡ true → is_newline b ≡ false
blank-is-no-newline b h = one-or b is_newline 32 9 refl refl (eqb b 32) refl h

hash-is-no-newline : (b : ℕ) → eqb b 35 ≡ true → is_newline b ≡ false
hash-is-no-newline b h = ap is_newline (eqb-true b 35 h)

equals-is-no-newline : (b : ℕ) → eqb b 61 ≡ true → is_newline b ≡ false
equals-is-no-newline b h = ap is_newline (eqb-true b 61 h)

-- ---- what is behind a name

abbrev behind : List ℕ → List ℕ
behind text = drop (position_or_len ends_name text) text

module _ (c : ℕ) (cs : List ℕ) where
  first-is : (x : ℕ) (xs : List ℕ) → ends_name x ≡ true → drop (position_or_len ends_name (x ∷ xs)) (x ∷ xs) ≡ c ∷ cs → (x ≡ c) × (xs ≡ cs)
  first-is x xs ends h =
      let here : x ∷ xs ≡ c ∷ cs = ap (λ (n : ℕ). drop n (x ∷ xs)) (sym (position_or_len-yes ends_name x xs ends)) ∙ h in
      (let e : x ≡ c = cc in e, let e : xs ≡ cs = cc in e)

  later-is : (x : ℕ) (xs : List ℕ) → ends_name x ≡ false → drop (position_or_len ends_name (x ∷ xs)) (x ∷ xs) ≡ c ∷ cs → drop (position_or_len ends_name xs) xs ≡ c ∷ cs
  later-is x xs none h =
      let k = position_or_len ends_name xs in
      let e : suc k ≡ 1 + k = omega arith in
      ap (λ (n : ℕ). drop n (x ∷ xs)) (e ∙ sym (position_or_len-no ends_name x xs none)) ∙ h

  value-behind : (text : List ℕ) → drop (position_or_len ends_name text) text ≡ c ∷ cs → eqb c 61 ≡ true → after_first is_equals text ≡ cs
  value-behind [] h e = absurd (let no : ◌≡◌ {A = List ℕ} [] (c ∷ cs) = h in cc)
  value-behind (x ∷ xs) h e =
      ⊎_elim
      (λ ends.
      let is = first-is x xs ends h in
      after-yes is_equals x xs (ap (λ (y : ℕ). eqb y 61) is.0 ∙ e) ∙ is.1)
      (λ none.
      let parts = or_parts (eqb x 61) (is_newline x) none in
      after-no is_equals x xs parts.0 ∙ value-behind xs (later-is x xs none h) e)
      (cases_Bool (ends_name x))

  newline-after : (text : List ℕ) → drop (position_or_len ends_name text) text ≡ c ∷ cs → eqb c 61 ≡ true → after_first is_newline text ≡ after_first is_newline cs
  newline-after [] h e = absurd (let no : ◌≡◌ {A = List ℕ} [] (c ∷ cs) = h in cc)
  newline-after (x ∷ xs) h e =
      ⊎_elim
      (λ ends.
      let is = first-is x xs ends h in
      after-no is_newline x xs (equals-is-no-newline x (ap (λ (y : ℕ). eqb y 61) is.0 ∙ e)) ∙ ap (after_first is_newline) is.1)
      (λ none.
      let parts = or_parts (eqb x 61) (is_newline x) none in
      after-no is_newline x xs parts.1 ∙ newline-after xs (later-is x xs none h) e)
      (cases_Bool (ends_name x))

  newline-behind : (text : List ℕ) → drop (position_or_len ends_name text) text ≡ c ∷ cs → eqb c 61 ≡ false → after_first is_newline text ≡ cs
  newline-behind [] h e = absurd (let no : ◌≡◌ {A = List ℕ} [] (c ∷ cs) = h in cc)
  newline-behind (x ∷ xs) h e =
      ⊎_elim
      (λ ends.
      let is = first-is x xs ends h in
      let other : eqb x 61 ≡ false = ap (λ (y : ℕ). eqb y 61) is.0 ∙ e in
      after-yes is_newline x xs (ap (λ (b : Bool). b || is_newline x) (sym other) ∙ ends) ∙ is.1)
      (λ none.
      let parts = or_parts (eqb x 61) (is_newline x) none in
      after-no is_newline x xs parts.1 ∙ newline-behind xs (later-is x xs none h) e)
      (cases_Bool (ends_name x))

-- ---- the lines of a value

abbrev Lines : List ℕ → Spelled → Type 0
Lines text v = (v.rest ≡ []) ⊎ ((n : ℕ) × (v.newlines ≡ suc n) × (after_lines (suc n) text ≡ v.rest))

skipped : (b : ℕ) (bs : List ℕ) (v : Spelled) → is_newline b ≡ false → Lines bs v → Lines (b ∷ bs) v
skipped b bs v other (inl e) = inl e
skipped b bs v other (inr l) = inr (l.0, l.1, lines-next l.0 (b ∷ bs) ∙ ap (after_lines l.0) (after-no is_newline b bs other) ∙ sym (lines-next l.0 bs) ∙ l.2)

byte-lines : (b : ℕ) (bs : List ℕ) (v : Spelled) → Lines bs v → Lines (b ∷ bs) (with_byte b v)
byte-lines b bs v (inl e) = inl e
byte-lines b bs v (inr l) =
    ⊎_elim
    (λ ends. inr (
      suc l.0,
      ap (λ (c : Bool). (if c then 1 else 0) + v.newlines) ends ∙ ap (λ (m : ℕ). 1 + m) l.1 ∙ (let e : 1 + suc l.0 ≡ suc (suc l.0) = omega arith in e),
      lines-next (suc l.0) (b ∷ bs) ∙ ap (after_lines (suc l.0)) (after-yes is_newline b bs ends) ∙ l.2,
    ))
    (λ none.
    let same : (with_byte b v).newlines ≡ v.newlines = ap (λ (c : Bool). (if c then 1 else 0) + v.newlines) none ∙ (let e : 0 + v.newlines ≡ v.newlines = omega arith in e) in
    inr (l.0, same ∙ l.1, lines-next l.0 (b ∷ bs) ∙ ap (after_lines l.0) (after-no is_newline b bs none) ∙ sym (lines-next l.0 bs) ∙ l.2))
    (cases_Bool (is_newline b))

spelled-lines : (escaped : Bool) (text : List ℕ) → Lines text (spelled escaped text)
spelled-lines false [] = inl refl
spelled-lines true [] = inl refl
spelled-lines true (b ∷ bs) = byte-lines b bs (spelled false bs) (spelled-lines false bs)
spelled-lines false (b ∷ bs) =
    ⊎_elim
    (λ ends. subst (Lines (b ∷ bs)) (sym (newline-ends b bs ends)) (inr (0, refl, lines-next 0 (b ∷ bs) ∙ lines-none (after_first is_newline (b ∷ bs)) ∙ after-yes is_newline b bs ends)))
    (λ other. ⊎_elim
    (λ slash. subst (Lines (b ∷ bs)) (sym (escape-begins b bs other slash)) (skipped b bs (spelled true bs) other (spelled-lines true bs)))
    (λ plain. subst (Lines (b ∷ bs)) (sym (byte-stands b bs other plain)) (byte-lines b bs (spelled false bs) (spelled-lines false bs)))
    (cases_Bool (eqb b 92)))
    (cases_Bool (is_newline b))

-- ---- a place in a text, in a line of the whole

-- what is behind the next `=` and the next newline from the line's start on is so from this place on
abbrev IsIn : (whole : List ℕ) → (line : ℕ) → (text : List ℕ) → Type 0
IsIn whole line text =
    (after_first is_equals (after_lines (line - 1) whole) ≡ after_first is_equals text)
    × (after_first is_newline (after_lines (line - 1) whole) ≡ after_first is_newline text)

abbrev Reached : (whole : List ℕ) → (line : ℕ) → (text : List ℕ) → Type 0
Reached whole line text = (1 ≤ line) × ((text ≡ []) ⊎ IsIn whole line text)

-- where a line begins
begins : (whole : List ℕ) (line : ℕ) (text : List ℕ) → after_lines (line - 1) whole ≡ text → IsIn whole line text
begins whole line text e = (ap (after_first is_equals) e, ap (after_first is_newline) e)

next-line : (whole : List ℕ) (line : ℕ) (text rest : List ℕ) → 1 ≤ line → IsIn whole line text → after_first is_newline text ≡ rest → Reached whole (line + 1) rest
next-line whole line text rest some is e =
    let one : line + 1 - 1 ≡ suc (line - 1) = omega (arith, some) in
    let here : after_lines (line + 1 - 1) whole ≡ rest = ap (λ (n : ℕ). after_lines n whole) one ∙ lines-more (line - 1) whole ∙ is.1 ∙ e in
    (omega arith, inr (begins whole (line + 1) rest here))

next-byte : (whole : List ℕ) (line : ℕ) (b : ℕ) (bs : List ℕ) → 1 ≤ line → is_equals b ≡ false → is_newline b ≡ false → IsIn whole line (b ∷ bs) → Reached whole line bs
next-byte whole line b bs some other none is = (some, inr (is.0 ∙ after-no is_equals b bs other, is.1 ∙ after-no is_newline b bs none))

-- behind a value
value-ends : (whole : List ℕ) (line : ℕ) (text : List ℕ) (c : ℕ) (cs : List ℕ) (v : Spelled) → 1 ≤ line → IsIn whole line text → behind text ≡ c ∷ cs → eqb c 61 ≡ true → Lines cs v →
    Reached whole (line + v.newlines) v.rest
value-ends whole line text c cs v some is h e (inl ends) = (omega (arith, some), inl ends)
value-ends whole line text c cs v some is h e (inr l) =
    let far : line + v.newlines - 1 ≡ line - 1 + suc l.0 = omega (arith, some, l.1) in
    let begun : after_first is_newline (after_lines (line - 1) whole) ≡ after_first is_newline cs = is.1 ∙ newline-after c cs text h e in
    let here : after_lines (line + v.newlines - 1) whole ≡ v.rest =
    ap (λ (n : ℕ). after_lines n whole) far ∙ lines-sum (line - 1) (suc l.0) whole ∙ lines-next l.0 (after_lines (line - 1) whole)
    ∙ ap (after_lines l.0) begun ∙ sym (lines-next l.0 cs) ∙ l.2 in
    (omega (arith, some), inr (begins whole (line + v.newlines) v.rest here))

-- ---- one entry

some-is : (xs v : List ℕ) → some_unless_empty xs ≡ Some v → xs ≡ v
some-is xs v h =
    ⊎_elim
    (λ none. absurd (let never : ◌≡◌ {A = Option (List ℕ)} None (Some v) = sym (cond-true _ _ _ none) ∙ h in cc))
    (λ some. let same : ◌≡◌ {A = Option (List ℕ)} (Some xs) (Some v) = sym (cond-false _ _ _ some) ∙ h in cc)
    (cases_Bool (eqb (length xs) 0))

abbrev EntryThere : (whole : List ℕ) → (line : ℕ) → (name : List ℕ) → Spelled → Type 0
EntryThere whole line name v = IsThere whole (record { name = name; value = some_unless_empty v.bytes; line = line }) × Reached whole (line + v.newlines) v.rest

-- by what is behind its name
entry-there : (whole : List ℕ) (line : ℕ) (text name d : List ℕ) → 1 ≤ line → IsIn whole line text → behind text ≡ d → EntryThere whole line name (behind_name d)
entry-there whole line text name [] some is h =
    (λ v e. absurd (let never : ◌≡◌ {A = Option (List ℕ)} None (Some v) = e in cc), (omega (arith, some), inl refl))
entry-there whole line text name (c ∷ cs) some is h =
    ⊎_elim
    (λ set. subst (EntryThere whole line name) (sym (cond-true _ _ _ set)) (
      λ v e. ap (λ (t : List ℕ). (spelled false t).bytes) (is.0 ∙ value-behind c cs text h set) ∙ some-is (spelled false cs).bytes v e,
      value-ends whole line text c cs (spelled false cs) some is h set (spelled-lines false cs),
    ))
    (λ none. subst (EntryThere whole line name) (sym (cond-false _ _ _ none)) (
      λ v e. absurd (let never : ◌≡◌ {A = Option (List ℕ)} None (Some v) = e in cc),
      next-line whole line text cs some is (newline-behind c cs text h none),
    ))
    (cases_Bool (eqb c 61))

-- ---- all entries

none-there : (whole : List ℕ) (entries : List Entry) → ◌≡◌ {A = Outcome} (Ok []) (Ok entries) → AreThere whole entries
none-there whole entries h = let same : [] ≡ entries = cc in subst (AreThere whole) same tt

first-ok : (e : Entry) (later : Outcome) (entries : List Entry) → with_first e later ≡ Ok entries → (es : List Entry) × (later ≡ Ok es) × (entries ≡ e ∷ es)
first-ok e (Ok es) entries h = (es, refl, let same : entries ≡ e ∷ es = cc in same)
first-ok e (Err fault) entries h = absurd (let never : ◌≡◌ {A = Outcome} (Err fault) (Ok entries) = h in cc)

within-none : (line : ℕ) (text : List ℕ) → entries_within 0 line text ≡ Ok []
unfolding entries_within
within-none line text = refl

within-next : (steps line : ℕ) (text : List ℕ) → entries_within (suc steps) line text ≡ skip_or_entry (entries_within steps) line text
unfolding entries_within
within-next steps line text = refl

all-there : (whole : List ℕ) (steps line : ℕ) (text : List ℕ) (entries : List Entry) → Reached whole line text → entries_within steps line text ≡ Ok entries → AreThere whole entries
all-there whole zero line text entries r h = none-there whole entries (sym (within-none line text) ∙ h)
all-there whole (suc steps) line [] entries r h = none-there whole entries (sym (within-next steps line []) ∙ h)
all-there whole (suc steps) line (b ∷ bs) entries (some, inl none) h = absurd (let never : ◌≡◌ {A = List ℕ} (b ∷ bs) [] = none in cc)
all-there whole (suc steps) line (b ∷ bs) entries (some, inr is) h =
    let text = b ∷ bs in
    let later = entries_within steps in
    let first : skip_or_entry later line text ≡ Ok entries = sym (within-next steps line text) ∙ h in
    ⊎_elim
    (λ blank. all-there whole steps line bs entries (next-byte whole line b bs some (blank-is-no-equals b blank) (blank-is-no-newline b blank) is) (sym (cond-true _ _ _ blank) ∙ first))
    (λ shown. ⊎_elim
    (λ ends. all-there whole steps (line + 1) bs entries (next-line whole line text bs some is (after-yes is_newline b bs ends)) (sym (cond-true _ _ _ ends) ∙ sym (cond-false _ _ _ shown) ∙ first))
    (λ other. ⊎_elim
    (λ comment. all-there whole steps (line + 1) (after_first is_newline bs) entries (next-line whole line text (after_first is_newline bs) some is (after-no is_newline b bs (hash-is-no-newline b comment)))
    (sym (cond-true _ _ _ comment) ∙ sym (cond-false _ _ _ other) ∙ sym (cond-false _ _ _ shown) ∙ first))
    (λ plain.
    let name = before_first ends_name text in
    let v = behind_name (behind text) in
    let e : Entry = record { name = name; value = some_unless_empty v.bytes; line = line } in
    let entry : entry_first later line text ≡ Ok entries = sym (cond-false _ _ _ plain) ∙ sym (cond-false _ _ _ other) ∙ sym (cond-false _ _ _ shown) ∙ first in
    ⊎_elim
    (λ empty. absurd (let never : ◌≡◌ {A = Outcome} (Err (EmptyName line)) (Ok entries) = sym (cond-true _ _ _ empty) ∙ entry in cc))
    (λ named.
    let f = first-ok e (later (line + v.newlines) v.rest) entries (sym (cond-false _ _ _ named) ∙ entry) in
    let there = entry-there whole line text name (behind text) some is refl in
    subst (AreThere whole) (sym f.2) (there.0, all-there whole steps (line + v.newlines) v.rest f.0 there.1 f.1))
    (cases_Bool (eqb (length name) 0)))
    (cases_Bool (eqb b 35)))
    (cases_Bool (is_newline b)))
    (cases_Bool (is_blank b))

pub values-there : (text : List ℕ) (entries : List Entry) → import_of text ≡ Ok entries → AreThere text entries
unfolding entries_from
values-there text entries h =
    ⊎_elim
    (λ zeros. absurd (let never : ◌≡◌ {A = Outcome} (Err Nul) (Ok entries) = sym (cond-true _ _ _ zeros) ∙ h in cc))
    (λ none. all-there text (length text) 1 text entries (omega arith, inr (begins text 1 text (lines-none text))) (sym (cond-false _ _ _ none) ∙ h))
    (cases_Bool (list_any is_zero text))
