-- A text for import is read as what it spells, and each text spells something: its entries or its one fault.
use Rattle.std.proofs.Common.{◌≡◌, ◌⊎◌, ℕ, zero, suc, ◌≤◌, ◌||◌, Bool, true, false, not, eqb, List, [], ◌∷◌, ◌++◌, length, Ok, Err, inl, inr, refl, sym, ap, ◌∙◌, subst, arith}
use Rattle.std.specs.List.{list_all, list_any, flat_map, AllByRecursion}
use Rattle.std.proofs.lemmas.Bool.{cases_Bool, and_from, or_cases, or_parts, or_from, cond-true, cond-false, eqb-true}
use Rattle.std.proofs.lemmas.List.{append_assoc, length-append}
use Rattle.std.proofs.lemmas.List.Folds.{list_any-append}
use Rattle.envimg_core.specs.Bytes.{equals}
use Rattle.envimg_core.specs.Environment.{is_zero, is_equals, is_empty}
use Rattle.text_parts.specs.Bytes.{hash, newline, is_blank, is_newline, begins}
use Rattle.envcfg_core.specs.declared.entry.TextFault.TheVariants.{EmptyName}
use Rattle.envcfg_core.specs.Bytes.{backslash}
use Rattle.envcfg_core.specs.Entries.{Outcome}
use Rattle.envcfg_core.specs.Import.{ends_name, entries_from, import_of, is_skipped}
use Rattle.envcfg_core.specs.ImportSteps.{with_front}
use Rattle.envcfg_core.specs.Spelling.{SpelledByte, byte_text, is_spelling, value_text, Part, Blank, EmptyLine, Comment, Deletion, Assignment, part_text, IsReadable, IsPart, part_entries, line_after, line_after_all, Ending, BehindParts, InComment, InName, InValue, AtBackslash, ending_text, IsEnding, spelled_text, spelled_entries, Spells}
use Rattle.envcfg_core.proofs.ImportLemmas.{entry_without_name}
use Rattle.envcfg_core.proofs.NamedLemmas.{neither}
use Rattle.envcfg_core.proofs.SpellingLemmas.{part-read, parts-read}

-- an empty name after some parts is that line's fault
nameless-read : (parts : List Part) (line : ℕ) (rest : List ℕ) → AllByRecursion IsPart parts →
    entries_from line (flat_map part_text parts ++ equals ∷ rest) ≡ Err (EmptyName (line_after_all line parts))
nameless-read [] line rest all = entry_without_name line 0 (equals ∷ rest) [] (omega arith) refl refl refl refl
nameless-read (part ∷ parts) line rest all =
    ap (entries_from line) (append_assoc (part_text part) (flat_map part_text parts) (equals ∷ rest))
    ∙ part-read part line (flat_map part_text parts ++ equals ∷ rest) all.0
    ∙ ap (with_front (part_entries line part)) (nameless-read parts (line_after line part) rest all.1)

-- what a text spells is what it is read as
pub spelled-is-read : (text : List ℕ) (outcome : Outcome) → Spells text outcome → import_of text ≡ outcome
spelled-is-read text outcome (inl (zeros, e)) = cond-true _ _ _ zeros ∙ sym e
spelled-is-read text outcome (inr (none, inl (parts, ending, all, end, is, e))) =
    cond-false _ _ _ none ∙ ap (entries_from 1) is ∙ parts-read parts 1 ending all end ∙ sym e
spelled-is-read text outcome (inr (none, inr (parts, rest, all, is, e))) =
    cond-false _ _ _ none ∙ ap (entries_from 1) is ∙ nameless-read parts 1 rest all ∙ sym e

-- a list cut before the first byte that passes a test, if one does
abbrev Cut : (ℕ → Bool) → List ℕ → Type 0
Cut p xs =
    (list_any p xs ≡ false)
    ⊎ ((front : List ℕ) × (c : ℕ) × (rest : List ℕ) × (list_any p front ≡ false) × (p c ≡ true) × (xs ≡ front ++ c ∷ rest))

cut_here : (p : ℕ → Bool) (x : ℕ) (xs : List ℕ) → (p x ≡ true) ⊎ (p x ≡ false) → Cut p xs → Cut p (x ∷ xs)
cut_here p x xs (inl passes) later = inr ([], x, xs, refl, passes, refl)
cut_here p x xs (inr fails) (inl none) = inl (or_from (p x) (list_any p xs) fails none)
cut_here p x xs (inr fails) (inr (front, c, rest, none, passes, is)) =
    inr (x ∷ front, c, rest, or_from (p x) (list_any p front) fails none, passes, ap (λ ys. x ∷ ys) is)

cut : (p : ℕ → Bool) (xs : List ℕ) → Cut p xs
cut p [] = inl refl
cut p (x ∷ xs) = cut_here p x xs (cases_Bool (p x)) (cut p xs)

-- no byte 0 is in either side of such a cut
zeros_apart : (text front : List ℕ) (c : ℕ) (rest : List ℕ) → text ≡ front ++ c ∷ rest → list_any is_zero text ≡ false →
    (list_any is_zero front ≡ false) × (list_any is_zero rest ≡ false)
zeros_apart text front c rest is z =
    let sides = or_parts (list_any is_zero front) (list_any is_zero (c ∷ rest)) (sym (list_any-append is_zero front (c ∷ rest)) ∙ ap (list_any is_zero) (sym is) ∙ z) in
    (sides.0, (or_parts (is_zero c) (list_any is_zero rest) sides.1).1)

shorter : (text front : List ℕ) (c : ℕ) (rest : List ℕ) → text ≡ front ++ c ∷ rest → length rest ≤ length text
shorter text front c rest is = omega (arith, ap length is, length-append front (c ∷ rest))

-- how a value's text ends: by a newline, with the text, or at a `\` that nothing follows
abbrev ValueCut : List ℕ → Type 0
ValueCut text = (value : List SpelledByte) × (list_all is_spelling value ≡ true) ×
    (((rest : List ℕ) × (text ≡ value_text value ++ newline ∷ rest)) ⊎ ((text ≡ value_text value) ⊎ (text ≡ value_text value ++ backslash ∷ [])))

with_byte_first : (b : SpelledByte) (text : List ℕ) → is_spelling b ≡ true → ValueCut text → ValueCut (byte_text b ++ text)
with_byte_first b text h (value, all, inl (rest, is)) =
    (b ∷ value, and_from _ _ h all, inl (rest, ap (λ ys. byte_text b ++ ys) is ∙ sym (append_assoc (byte_text b) (value_text value) (newline ∷ rest))))
with_byte_first b text h (value, all, inr (inl is)) = (b ∷ value, and_from _ _ h all, inr (inl (ap (λ ys. byte_text b ++ ys) is)))
with_byte_first b text h (value, all, inr (inr is)) =
    (b ∷ value, and_from _ _ h all, inr (inr (ap (λ ys. byte_text b ++ ys) is ∙ sym (append_assoc (byte_text b) (value_text value) (backslash ∷ [])))))

plain_first : (b : ℕ) (text : List ℕ) → is_newline b ≡ false → eqb b backslash ≡ false → ValueCut text → ValueCut (b ∷ text)
plain_first b text n m later = with_byte_first (record { byte = b; escaped = false }) text (ap not (or_from (eqb b backslash) (is_newline b) m n)) later

newline_first : (b : ℕ) (text : List ℕ) → is_newline b ≡ true → ValueCut (b ∷ text)
newline_first b text h = ([], refl, inl (text, ap (λ x. x ∷ text) (eqb-true b newline h)))

last_byte : (b : ℕ) → (is_newline b ≡ true) ⊎ (is_newline b ≡ false) → (eqb b backslash ≡ true) ⊎ (eqb b backslash ≡ false) → ValueCut (b ∷ [])
last_byte b (inl n) m = newline_first b [] n
last_byte b (inr n) (inl m) = ([], refl, inr (inr (ap (λ x. x ∷ []) (eqb-true b backslash m))))
last_byte b (inr n) (inr m) = plain_first b [] n m ([], refl, inr (inl refl))

byte_before : (b c : ℕ) (text : List ℕ) → (is_newline b ≡ true) ⊎ (is_newline b ≡ false) → (eqb b backslash ≡ true) ⊎ (eqb b backslash ≡ false) →
    ValueCut (c ∷ text) → ValueCut text → ValueCut (b ∷ c ∷ text)
byte_before b c text (inl n) m next later = newline_first b (c ∷ text) n
byte_before b c text (inr n) (inl m) next later =
    subst (λ x. ValueCut (x ∷ c ∷ text)) (sym (eqb-true b backslash m)) (with_byte_first (record { byte = c; escaped = true }) text refl later)
byte_before b c text (inr n) (inr m) next later = plain_first b (c ∷ text) n m next

value_cut : (text : List ℕ) → ValueCut text
value_cut [] = ([], refl, inr (inl refl))
value_cut (b ∷ []) = last_byte b (cases_Bool (is_newline b)) (cases_Bool (eqb b backslash))
value_cut (b ∷ c ∷ text) = byte_before b c text (cases_Bool (is_newline b)) (cases_Bool (eqb b backslash)) (value_cut (c ∷ text)) (value_cut text)

-- a name as an import reads it
both : (p q : ℕ → Bool) (xs : List ℕ) → list_any p xs ≡ false → list_any q xs ≡ false → list_any (λ b. p b || q b) xs ≡ false
both p q [] h k = refl
both p q (x ∷ xs) h k =
    let left = or_parts (p x) (list_any p xs) h in
    let right = or_parts (q x) (list_any q xs) k in
    or_from (p x || q x) (list_any (λ b. p b || q b) xs) (or_from (p x) (q x) left.0 right.0) (both p q xs left.1 right.1)

readable : (b : ℕ) (front : List ℕ) → is_skipped b ≡ false → list_any ends_name (b ∷ front) ≡ false → list_any is_zero (b ∷ front) ≡ false → IsReadable (b ∷ front)
readable b front s e z =
    let ends = neither is_equals is_newline (b ∷ front) e in
    record {
      name_is = ap not (or_from (is_empty (b ∷ front)) _ refl (both is_zero is_equals (b ∷ front) z ends.0));
      readable = or_from (begins is_skipped (b ∷ front)) (list_any is_newline (b ∷ front)) s ends.1;
    }

-- what a text without a byte 0 is made of
abbrev Found : List ℕ → Type 0
Found text =
    ((parts : List Part) × (ending : Ending) × AllByRecursion IsPart parts × IsEnding ending × (text ≡ spelled_text parts ending))
    ⊎ ((parts : List Part) × (rest : List ℕ) × AllByRecursion IsPart parts × (text ≡ flat_map part_text parts ++ equals ∷ rest))

with_part : (part : Part) (text rest : List ℕ) → IsPart part → text ≡ part_text part ++ rest → Found rest → Found text
with_part part text rest h e (inl (parts, ending, all, end, is)) =
    inl (
      part ∷ parts,
      ending,
      (h, all),
      end,
      e ∙ ap (λ ys. part_text part ++ ys) is ∙ sym (append_assoc (part_text part) (flat_map part_text parts) (ending_text ending)),
    )
with_part part text rest h e (inr (parts, last, all, is)) =
    inr (
      part ∷ parts,
      last,
      (h, all),
      e ∙ ap (λ ys. part_text part ++ ys) is ∙ sym (append_assoc (part_text part) (flat_map part_text parts) (equals ∷ last)),
    )

with_ending : (ending : Ending) (text : List ℕ) → IsEnding ending → text ≡ ending_text ending → Found text
with_ending ending text h e = inl ([], ending, tt, h, e)

-- what is after is made of parts already
abbrev Later : List ℕ → Type 0
Later text = (t : List ℕ) → length t ≤ length text → list_any is_zero t ≡ false → Found t

comment : (bs : List ℕ) → Later bs → list_any is_zero bs ≡ false → Cut is_newline bs → Found (hash ∷ bs)
comment bs later z (inl none) = with_ending (InComment bs) (hash ∷ bs) none refl
comment bs later z (inr (front, c, rest, none, passes, is)) =
    with_part (Comment front) (hash ∷ bs) rest none
    (ap (λ ys. hash ∷ ys) (is ∙ ap (λ x. front ++ x ∷ rest) (eqb-true c newline passes) ∙ sym (append_assoc front (newline ∷ []) rest)))
    (later rest (shorter bs front c rest is) (zeros_apart bs front c rest is z).1)

valued : (name text rest : List ℕ) → IsReadable name → text ≡ name ++ equals ∷ rest → Later rest → list_any is_zero rest ≡ false → ValueCut rest → Found text
valued name text rest r is later z (value, all, inl (next, cut)) =
    with_part (Assignment name value) text next (r, all)
    (is ∙ ap (λ ys. name ++ equals ∷ ys) (cut ∙ sym (append_assoc (value_text value) (newline ∷ []) next))
    ∙ sym (append_assoc name (equals ∷ (value_text value ++ newline ∷ [])) next))
    (later next (shorter rest (value_text value) newline next cut) (zeros_apart rest (value_text value) newline next cut z).1)
valued name text rest r is later z (value, all, inr (inl cut)) =
    with_ending (InValue name value) text (r, all) (is ∙ ap (λ ys. name ++ equals ∷ ys) cut)
valued name text rest r is later z (value, all, inr (inr cut)) =
    with_ending (AtBackslash name value) text (r, all) (is ∙ ap (λ ys. name ++ equals ∷ ys) cut)

ended : (name text : List ℕ) (c : ℕ) (rest : List ℕ) → IsReadable name → text ≡ name ++ c ∷ rest → Later rest → list_any is_zero rest ≡ false →
    (eqb c equals ≡ true) ⊎ (is_newline c ≡ true) → Found text
ended name text c rest r is later z (inl e) =
    valued name text rest r (is ∙ ap (λ x. name ++ x ∷ rest) (eqb-true c equals e)) later z (value_cut rest)
ended name text c rest r is later z (inr n) =
    with_part (Deletion name) text rest r
    (is ∙ ap (λ x. name ++ x ∷ rest) (eqb-true c newline n) ∙ sym (append_assoc name (newline ∷ []) rest)) (later rest (omega arith) z)

named : (b : ℕ) (bs : List ℕ) → is_skipped b ≡ false → eqb b equals ≡ false → Later bs → list_any is_zero (b ∷ bs) ≡ false → Cut ends_name bs → Found (b ∷ bs)
named b bs s e later z (inl none) =
    let begins_name = or_from (eqb b equals) (is_newline b) e (or_parts (is_blank b) (is_newline b) (or_parts (is_blank b || is_newline b) (eqb b hash) s).0).1 in
    with_ending (InName (b ∷ bs)) (b ∷ bs) (readable b bs s (or_from (ends_name b) (list_any ends_name bs) begins_name none) z) refl
named b bs s e later z (inr (front, c, rest, none, passes, is)) =
    let begins_name = or_from (eqb b equals) (is_newline b) e (or_parts (is_blank b) (is_newline b) (or_parts (is_blank b || is_newline b) (eqb b hash) s).0).1 in
    let zeros = or_parts (is_zero b) (list_any is_zero bs) z in
    let apart = zeros_apart bs front c rest is zeros.1 in
    let name = readable b front s (or_from (ends_name b) (list_any ends_name front) begins_name none) (or_from (is_zero b) (list_any is_zero front) zeros.0 apart.0) in
    ended (b ∷ front) (b ∷ bs) c rest name (ap (λ ys. b ∷ ys) is) (λ t l y. later t (omega (arith, l, shorter bs front c rest is)) y) apart.1
    (or_cases (eqb c equals) (is_newline c) passes)

at_place : (b : ℕ) (bs : List ℕ) → Later bs → list_any is_zero (b ∷ bs) ≡ false →
    (is_blank b ≡ true) ⊎ (is_blank b ≡ false) → (is_newline b ≡ true) ⊎ (is_newline b ≡ false) →
    (eqb b hash ≡ true) ⊎ (eqb b hash ≡ false) → (eqb b equals ≡ true) ⊎ (eqb b equals ≡ false) → Found (b ∷ bs)
at_place b bs later z (inl k) n h e = with_part (Blank b) (b ∷ bs) bs k refl (later bs (omega arith) (or_parts (is_zero b) (list_any is_zero bs) z).1)
at_place b bs later z (inr k) (inl n) h e =
    with_part EmptyLine (b ∷ bs) bs tt (ap (λ x. x ∷ bs) (eqb-true b newline n)) (later bs (omega arith) (or_parts (is_zero b) (list_any is_zero bs) z).1)
at_place b bs later z (inr k) (inr n) (inl h) e =
    subst (λ x. Found (x ∷ bs)) (sym (eqb-true b hash h)) (comment bs later (or_parts (is_zero b) (list_any is_zero bs) z).1 (cut is_newline bs))
at_place b bs later z (inr k) (inr n) (inr h) (inl e) = inr ([], bs, tt, ap (λ x. x ∷ bs) (eqb-true b equals e))
at_place b bs later z (inr k) (inr n) (inr h) (inr e) =
    named b bs (or_from (is_blank b || is_newline b) (eqb b hash) (or_from (is_blank b) (is_newline b) k n) h) e later z (cut ends_name bs)

found : (n : ℕ) (text : List ℕ) → length text ≤ n → list_any is_zero text ≡ false → Found text
found n [] h z = with_ending BehindParts [] tt refl
found zero (b ∷ bs) h z = absurd (omega arith)
found (suc n) (b ∷ bs) h z =
    at_place b bs (λ t l y. found n t (omega (arith, l, h)) y) z (cases_Bool (is_blank b)) (cases_Bool (is_newline b)) (cases_Bool (eqb b hash)) (cases_Bool (eqb b equals))

spells_by : (text : List ℕ) → list_any is_zero text ≡ false → Found text → Spells text (import_of text)
spells_by text none (inl (parts, ending, all, end, is)) =
    inr (none, inl (parts, ending, all, end, is, spelled-is-read text (Ok (spelled_entries 1 parts ending)) (inr (none, inl (parts, ending, all, end, is, refl)))))
spells_by text none (inr (parts, rest, all, is)) =
    inr (none, inr (parts, rest, all, is, spelled-is-read text (Err (EmptyName (line_after_all 1 parts))) (inr (none, inr (parts, rest, all, is, refl)))))

read_by : (text : List ℕ) → (list_any is_zero text ≡ true) ⊎ (list_any is_zero text ≡ false) → Spells text (import_of text)
read_by text (inl zeros) = inl (zeros, cond-true _ _ _ zeros)
read_by text (inr none) = spells_by text none (found (length text) text (omega arith) none)

-- what a text is read as is what it spells
pub read-is-spelled : (text : List ℕ) → Spells text (import_of text)
read-is-spelled text = read_by text (cases_Bool (list_any is_zero text))
