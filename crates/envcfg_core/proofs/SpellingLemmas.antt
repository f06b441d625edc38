-- A text that spells entries is read as them: part by part, and then its end.
use Rattle.std.proofs.Common.{◌≡◌, ℕ, ◌+◌, ◌||◌, Bool, true, false, not, cond, eqb, List, [], ◌∷◌, ◌++◌, Ok, Err, refl, sym, ap, ◌∙◌, arith, add_assoc}
use Rattle.std.specs.List.{list_all, list_any, flat_map, count_by, after_first, position_or_len, AllByRecursion}
use Rattle.std.proofs.lemmas.Bool.{and_parts, or_parts, cond-false, not-true}
use Rattle.std.proofs.lemmas.List.{append_assoc, append-nil, drop_all}
use Rattle.std.proofs.lemmas.List.Sums.{sum_by-cons}
use Rattle.envimg_core.specs.Bytes.{equals}
use Rattle.envimg_core.specs.Environment.{is_zero}
use Rattle.text_parts.specs.Bytes.{hash, newline, is_newline}
use Rattle.envcfg_core.specs.Bytes.{backslash, is_marked}
use Rattle.envcfg_core.specs.Entries.{Entry, Outcome, with_first}
use Rattle.envcfg_core.specs.Import.{Spelled, spelled, with_byte, ended_by_newline, entries_from, import_of}
use Rattle.envcfg_core.specs.ImportSteps.{onto, with_front}
use Rattle.envcfg_core.specs.Spelling.{SpelledByte, byte_text, is_spelling, value_text, value_of, Part, Blank, EmptyLine, Comment, Deletion, Assignment, part_text, IsReadable, IsPart, assigned, deleted, part_entries, line_after, Ending, BehindParts, InComment, InName, InValue, AtBackslash, ending_text, IsEnding, ending_entries, spelled_text, spelled_entries}
use Rattle.envcfg_core.proofs.SpelledLemmas.{onto_none}
use Rattle.envcfg_core.proofs.ImportLemmas.{entries_from-nil, entries_from-blank, entries_from-newline, entries_from-comment, with_front-nil}
use Rattle.envcfg_core.proofs.NamedLemmas.{named-read, position-whole}
use Rattle.envcfg_core.proofs.LineLawLemmas.{reads_comment, reads_deletion}

-- a byte of a value
spelled-one : (b : ℕ) (escaped : Bool) (text : List ℕ) → (escaped || not (is_marked b)) ≡ true →
    spelled false (cond escaped (backslash ∷ b ∷ []) (b ∷ []) ++ text) ≡ with_byte b (spelled false text)
spelled-one b true text h = refl
spelled-one b false text h =
    let parts = or_parts (eqb b backslash) (is_newline b) (not-true _ h) in
    cond-false _ _ _ parts.1 ∙ cond-false _ _ _ parts.0

with_byte-onto : (b : ℕ) (bs : List ℕ) (v : Spelled) → with_byte b (onto bs (count_by is_newline bs) v) ≡ onto (b ∷ bs) (count_by is_newline (b ∷ bs)) v
with_byte-onto b bs v =
    let f : ℕ → Spelled = λ n. record { bytes = b ∷ (bs ++ v.bytes); newlines = n; rest = v.rest } in
    ap f (sym (add_assoc (cond (is_newline b) 1 0) (count_by is_newline bs) v.newlines) ∙ ap (λ n. n + v.newlines) (sym (sum_by-cons (λ x. cond (is_newline x) 1 0) b bs)))

-- the bytes of a value before any text
pub spelled-bytes : (value : List SpelledByte) (rest : List ℕ) → list_all is_spelling value ≡ true →
    spelled false (value_text value ++ rest) ≡ onto (value_of value) (count_by is_newline (value_of value)) (spelled false rest)
spelled-bytes [] rest h = onto_none (spelled false rest)
spelled-bytes (b ∷ bs) rest h =
    let parts = and_parts (is_spelling b) (list_all is_spelling bs) h in
    ap (spelled false) (append_assoc (byte_text b) (value_text bs) rest)
    ∙ spelled-one b.byte b.escaped (value_text bs ++ rest) parts.0
    ∙ ap (with_byte b.byte) (spelled-bytes bs rest parts.1)
    ∙ with_byte-onto b.byte (value_of bs) (spelled false rest)

pub assignment-read : (line : ℕ) (name : List ℕ) (value : List SpelledByte) (rest : List ℕ) → IsReadable name → list_all is_spelling value ≡ true →
    entries_from line (part_text (Assignment name value) ++ rest)
    ≡ with_first (assigned line name (value_of value)) (entries_from (line_after line (Assignment name value)) rest)
assignment-read line name value rest r h =
    let xs = value_of value in
    let n = count_by is_newline xs in
    let body = value_text value ++ newline ∷ rest in
    ap (entries_from line) (append_assoc name (equals ∷ (value_text value ++ newline ∷ [])) rest ∙ ap (λ ys. name ++ equals ∷ ys) (append_assoc (value_text value) (newline ∷ []) rest))
    ∙ named-read line name (equals ∷ body) (onto xs n (ended_by_newline rest)) r.name_is r.readable refl (sym (spelled-bytes value (newline ∷ rest) h))
    ∙ ap (λ ys. with_first (assigned line name ys) (entries_from (line + (n + 1)) rest)) (append-nil xs)

first-front : (e : Entry) (o : Outcome) → with_first e o ≡ with_front (e ∷ []) o
first-front e (Ok entries) = refl
first-front e (Err fault) = refl

pub part-read : (part : Part) (line : ℕ) (rest : List ℕ) → IsPart part → entries_from line (part_text part ++ rest) ≡ with_front (part_entries line part) (entries_from (line_after line part) rest)
part-read (Blank b) line rest h = entries_from-blank line b (b ∷ rest) rest refl h ∙ with_front-nil _
part-read EmptyLine line rest h = entries_from-newline line newline (newline ∷ rest) rest refl refl ∙ with_front-nil _
part-read (Comment text) line rest h =
    ap (λ ys. entries_from line (hash ∷ ys)) (append_assoc text (newline ∷ []) rest) ∙ reads_comment line [] text rest refl h ∙ with_front-nil _
part-read (Deletion name) line rest h =
    ap (entries_from line) (append_assoc name (newline ∷ []) rest) ∙ reads_deletion line name rest h.name_is h.readable ∙ first-front (deleted line name) _
part-read (Assignment name value) line rest h = assignment-read line name value rest h.0 h.1 ∙ first-front (assigned line name (value_of value)) _

-- the end of a text
one_left : (e : Entry) (line : ℕ) → with_first e (entries_from line []) ≡ Ok (e ∷ [])
one_left e line = ap (with_first e) (entries_from-nil line)

ending-read : (ending : Ending) (line : ℕ) → IsEnding ending → entries_from line (ending_text ending) ≡ Ok (ending_entries line ending)
ending-read BehindParts line h = entries_from-nil line
ending-read (InComment text) line h =
    let none : [] ≡ after_first is_newline text = sym (drop_all (position_or_len is_newline text + 1) text (omega (arith, position-whole is_newline text h))) in
    entries_from-comment line hash (hash ∷ text) text [] refl refl none ∙ entries_from-nil (line + 1)
ending-read (InName name) line h =
    ap (entries_from line) (sym (append-nil name))
    ∙ named-read line name [] (record { bytes = []; newlines = 0; rest = [] }) h.name_is h.readable refl refl
    ∙ one_left (deleted line name) (line + 0)
ending-read (InValue name value) line h =
    let xs = value_of value in
    let n = count_by is_newline xs in
    let whole = ap (spelled false) (sym (append-nil (value_text value))) ∙ spelled-bytes value [] h.1 in
    named-read line name (equals ∷ value_text value) (onto xs n (spelled false [])) h.0.name_is h.0.readable refl (sym whole)
    ∙ ap (λ ys. with_first (assigned line name ys) (entries_from (line + (n + 0)) [])) (append-nil xs)
    ∙ one_left (assigned line name xs) (line + (n + 0))
ending-read (AtBackslash name value) line h =
    let xs = value_of value in
    let n = count_by is_newline xs in
    named-read line name (equals ∷ (value_text value ++ backslash ∷ [])) (onto xs n (spelled false (backslash ∷ []))) h.0.name_is h.0.readable refl (sym (spelled-bytes value (backslash ∷ []) h.1))
    ∙ one_left (assigned line name (xs ++ backslash ∷ [])) (line + (n + 0))

pub parts-read : (parts : List Part) (line : ℕ) (ending : Ending) → AllByRecursion IsPart parts → IsEnding ending →
    entries_from line (spelled_text parts ending) ≡ Ok (spelled_entries line parts ending)
parts-read [] line ending all e = ending-read ending line e
parts-read (part ∷ parts) line ending all e =
    ap (entries_from line) (append_assoc (part_text part) (flat_map part_text parts) (ending_text ending))
    ∙ part-read part line (spelled_text parts ending) all.0
    ∙ ap (with_front (part_entries line part)) (parts-read parts (line_after line part) ending all.1 e)

-- the law
pub spelled-read : (parts : List Part) (ending : Ending) → AllByRecursion IsPart parts → IsEnding ending → list_any is_zero (spelled_text parts ending) ≡ false →
    import_of (spelled_text parts ending) ≡ Ok (spelled_entries 1 parts ending)
spelled-read parts ending all e no_zero = cond-false _ _ _ no_zero ∙ parts-read parts 1 ending all e
