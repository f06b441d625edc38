-- An entry's name before any text, and what is after it.
use Rattle.std.proofs.Common.{◌≡◌, ℕ, suc, ◌+◌, ◌<◌, ◌||◌, Bool, true, false, eqb, List, [], ◌∷◌, ◌++◌, length, refl, sym, ap, ◌∙◌, arith}
use Rattle.std.specs.List.{position_or_len, list_any}
use Rattle.std.proofs.lemmas.Bool.{or_parts, or_from, not-true, ne_eqb, true≢false}
use Rattle.std.proofs.lemmas.List.{append-nil, take_at, drop_at}
use Rattle.envimg_core.specs.Environment.{is_name, is_zero, is_equals, is_empty}
use Rattle.text_parts.specs.Bytes.{is_newline, begins}
use Rattle.text_parts.proofs.CutLemmas.{position_or_len-no}
use Rattle.envcfg_core.specs.Bytes.{some_unless_empty}
use Rattle.envcfg_core.specs.Entries.{with_first}
use Rattle.envcfg_core.specs.Import.{Spelled, behind_name, ends_name, entries_from, is_skipped}
use Rattle.envcfg_core.specs.Export.{is_unreadable}
use Rattle.envcfg_core.proofs.ImportLemmas.{entry_with_name}

-- a test that passes nowhere in the prefix, and at once after it, or nothing is there
pub position-front : (p : ℕ → Bool) (xs ys : List ℕ) → list_any p xs ≡ false → position_or_len p ys ≡ 0 → position_or_len p (xs ++ ys) ≡ length xs
position-front p [] ys h e = e
position-front p (x ∷ xs) ys h e =
    let parts = or_parts (p x) (list_any p xs) h in
    position_or_len-no p x (xs ++ ys) parts.0 ∙ ap (λ k. 1 + k) (position-front p xs ys parts.1 e) ∙ (let f : 1 + length xs ≡ suc (length xs) = omega arith in f)

pub position-whole : (p : ℕ → Bool) (xs : List ℕ) → list_any p xs ≡ false → position_or_len p xs ≡ length xs
position-whole p xs h = ap (position_or_len p) (sym (append-nil xs)) ∙ position-front p xs [] h refl

-- neither of two tests passes if their join doesn't
pub neither : (p q : ℕ → Bool) (xs : List ℕ) → list_any (λ b. p b || q b) xs ≡ false → (list_any p xs ≡ false) × (list_any q xs ≡ false)
neither p q [] h = (refl, refl)
neither p q (x ∷ xs) h =
    let here = or_parts (p x || q x) _ h in
    let both = or_parts (p x) (q x) here.0 in
    let later = neither p q xs here.1 in
    (or_from _ _ both.0 later.0, or_from _ _ both.1 later.1)

pub name_parts : (name : List ℕ) → is_name name ≡ true → (is_empty name ≡ false) × (list_any is_zero name ≡ false) × (list_any is_equals name ≡ false)
name_parts name h =
    let parts = or_parts (is_empty name) _ (not-true _ h) in
    let bytes = neither is_zero is_equals name parts.1 in
    (parts.0, bytes.0, bytes.1)

pub not_empty : (xs : List ℕ) → is_empty xs ≡ false → eqb (length xs) 0 ≡ false
not_empty [] h = h
not_empty (x ∷ xs) h = ne_eqb (suc (length xs)) 0 (λ e. omega arith)

pub begins_entry : (name rest : List ℕ) → is_empty name ≡ false → is_unreadable name ≡ false → begins is_skipped (name ++ rest) ≡ false
begins_entry [] rest h u = absurd (true≢false h)
begins_entry (b ∷ bs) rest h u = (or_parts (is_skipped b) (list_any is_newline (b ∷ bs)) u).0

neither-byte : (xs : List ℕ) → list_any is_equals xs ≡ false → list_any is_newline xs ≡ false → list_any ends_name xs ≡ false
neither-byte [] e n = refl
neither-byte (x ∷ xs) e n =
    let eqs = or_parts (is_equals x) (list_any is_equals xs) e in
    let nls = or_parts (is_newline x) (list_any is_newline xs) n in
    or_from (ends_name x) (list_any ends_name xs) (or_from (is_equals x) (is_newline x) eqs.0 nls.0) (neither-byte xs eqs.1 nls.1)

filled : (xs ys : List ℕ) → is_empty xs ≡ false → 0 < length (xs ++ ys)
filled [] ys h = absurd (true≢false h)
filled (x ∷ xs) ys h = omega arith

-- a name, and after it `=`, a newline or nothing
pub named-read : (line : ℕ) (name behind : List ℕ) (v : Spelled) → is_name name ≡ true → is_unreadable name ≡ false → position_or_len ends_name behind ≡ 0 → v ≡ behind_name behind →
    entries_from line (name ++ behind) ≡ with_first (record { name = name; value = some_unless_empty v.bytes; line = line }) (entries_from (line + v.newlines) v.rest)
named-read line name behind v h u at e =
    let parts = name_parts name h in
    let readable = or_parts (begins is_skipped name) (list_any is_newline name) u in
    let place = position-front ends_name name behind (neither-byte name parts.2 readable.1) at in
    entry_with_name line (length name) (name ++ behind) name behind v (some_unless_empty v.bytes) (filled name behind parts.0) (begins_entry name behind parts.0 u)
    (sym place) (sym (take_at name behind (length name) refl)) (sym (drop_at name behind (length name) refl)) (not_empty name parts.0) e refl
