-- An exported variable, read back before any text: its text is one of its spellings.
use Rattle.std.proofs.Common.{◌≡◌, ℕ, ◌+◌, ◌||◌, Bool, true, false, not, eqb, List, [], ◌∷◌, ◌++◌, Some, Ok, refl, sym, ap, ◌∙◌, ⊎_elim, arith}
use Rattle.std.specs.Prelude.{map, ◌&&◌}
use Rattle.std.specs.List.{list_all, list_any, count_by, AllByRecursion}
use Rattle.std.proofs.lemmas.Bool.{cases_Bool, or_parts, or_from, cond-true, cond-false, not-true}
use Rattle.std.proofs.lemmas.List.Folds.{list_any-append}
use Rattle.envimg_core.specs.Bytes.{equals}
use Rattle.envimg_core.specs.Environment.{Pair, is_value, is_zero, is_empty}
use Rattle.text_parts.specs.Bytes.{newline, is_newline}
use Rattle.envcfg_core.specs.Bytes.{backslash, is_marked, some_unless_empty}
use Rattle.envcfg_core.specs.Entries.{with_first}
use Rattle.envcfg_core.specs.Import.{entries_from, import_of}
use Rattle.envcfg_core.specs.Export.{escaped_byte, escaped, exported, IsExportable, exported_all, pair_entry, line_behind, entries_of_pairs}
use Rattle.envcfg_core.specs.Spelling.{SpelledByte, is_spelling, value_text, value_of, assigned}
use Rattle.envcfg_core.proofs.ImportLemmas.{entries_from-nil}
use Rattle.envcfg_core.proofs.NamedLemmas.{name_parts, not_empty}
use Rattle.envcfg_core.proofs.SpellingLemmas.{assignment-read}

-- the spelling of an exported value: `\` is before the bytes that need it
abbrev marked : ℕ → SpelledByte
marked b = record { byte = b; escaped = is_marked b }

escaped-is : (value : List ℕ) → escaped value ≡ value_text (map marked value)
escaped-is [] = refl
escaped-is (b ∷ bs) = ap (λ ys. escaped_byte b ++ ys) (escaped-is bs)

value-is : (value : List ℕ) → value_of (map marked value) ≡ value
value-is [] = refl
value-is (b ∷ bs) = ap (λ ys. b ∷ ys) (value-is bs)

or_not : (b : Bool) → (b || not b) ≡ true
or_not true = refl
or_not false = refl

marked-spells : (value : List ℕ) → list_all is_spelling (map marked value) ≡ true
marked-spells [] = refl
marked-spells (b ∷ bs) = ap (λ t. t && list_all is_spelling (map marked bs)) (or_not (is_marked b)) ∙ marked-spells bs

value_parts : (value : List ℕ) → is_value value ≡ true → (is_empty value ≡ false) × (list_any is_zero value ≡ false)
value_parts value h = let parts = or_parts (is_empty value) _ (not-true _ h) in (parts.0, parts.1)

kept_value : (value : List ℕ) → is_empty value ≡ false → Some value ≡ some_unless_empty value
kept_value value h = sym (cond-false _ _ _ (not_empty value h))

-- one exported variable before any text is one entry, and the entries of that text
pub entries_from-exported : (line : ℕ) (p : Pair) (rest : List ℕ) → IsExportable p →
    entries_from line (exported p.0 p.1 ++ rest) ≡ with_first (pair_entry line p) (entries_from (line_behind line p) rest)
entries_from-exported line p rest h =
    ap (λ ys. entries_from line ((p.0 ++ equals ∷ (ys ++ newline ∷ [])) ++ rest)) (escaped-is p.1)
    ∙ assignment-read line p.0 (map marked p.1) rest (record { name_is = h.name; readable = h.readable }) (marked-spells p.1)
    ∙ ap (λ ys. with_first (assigned line p.0 ys) (entries_from (line + (count_by is_newline ys + 1)) rest)) (value-is p.1)
    ∙ ap (λ v. with_first (record { name = p.0; value = v; line = line }) (entries_from (line + (count_by is_newline p.1 + 1)) rest)) (sym (kept_value p.1 (value_parts p.1 h.value).0))
    ∙ ap (λ n. with_first (pair_entry line p) (entries_from n rest)) (let e : line + (count_by is_newline p.1 + 1) ≡ line_behind line p = omega arith in e)

-- variables exported one after the other
pub entries_from-exported_all : (line : ℕ) (pairs : List Pair) → AllByRecursion IsExportable pairs →
    entries_from line (exported_all pairs) ≡ Ok (entries_of_pairs line pairs)
entries_from-exported_all line [] all = entries_from-nil line
entries_from-exported_all line (p ∷ pairs) all =
    entries_from-exported line p (exported_all pairs) all.0
    ∙ ap (with_first (record { name = p.0; value = Some p.1; line = line })) (entries_from-exported_all (line + count_by is_newline p.1 + 1) pairs all.1)

no_zero-escaped_byte : (b : ℕ) → is_zero b ≡ false → list_any is_zero (escaped_byte b) ≡ false
no_zero-escaped_byte b h =
    ⊎_elim
    (λ m. ap (list_any is_zero) (cond-true _ (backslash ∷ b ∷ []) (b ∷ []) m) ∙ or_from _ _ h refl)
    (λ m. ap (list_any is_zero) (cond-false _ (backslash ∷ b ∷ []) (b ∷ []) m) ∙ or_from _ _ h refl)
    (cases_Bool (eqb b backslash || is_newline b))

-- no 0 byte is in the text of exported variables
no_zero-escaped : (value : List ℕ) → list_any is_zero value ≡ false → list_any is_zero (escaped value) ≡ false
no_zero-escaped [] h = refl
no_zero-escaped (b ∷ bs) h =
    let parts = or_parts (is_zero b) _ h in
    list_any-append is_zero (escaped_byte b) (escaped bs) ∙ or_from _ _ (no_zero-escaped_byte b parts.0) (no_zero-escaped bs parts.1)

no_zero-exported_all : (pairs : List Pair) → AllByRecursion IsExportable pairs → list_any is_zero (exported_all pairs) ≡ false
no_zero-exported_all [] all = refl
no_zero-exported_all (p ∷ pairs) all =
    let h = all.0 in
    let value = list_any-append is_zero (escaped p.1) (newline ∷ []) ∙ or_from _ _ (no_zero-escaped p.1 (value_parts p.1 h.value).1) refl in
    let whole = list_any-append is_zero p.0 (equals ∷ (escaped p.1 ++ newline ∷ [])) ∙ or_from _ _ (name_parts p.0 h.name).1 value in
    list_any-append is_zero (exported p.0 p.1) (exported_all pairs) ∙ or_from _ _ whole (no_zero-exported_all pairs all.1)

-- the law
pub import-exported_all : (pairs : List Pair) → AllByRecursion IsExportable pairs → import_of (exported_all pairs) ≡ Ok (entries_of_pairs 1 pairs)
import-exported_all pairs all = cond-false _ _ _ (no_zero-exported_all pairs all) ∙ entries_from-exported_all 1 pairs all
