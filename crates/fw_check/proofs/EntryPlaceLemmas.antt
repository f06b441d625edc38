-- How much of a value's text spells so much of the value.
use Rattle.std.proofs.Common.{◌≡◌, ◌≤◌, ℕ, zero, suc, ◌+◌, ◌-◌, Bool, true, false, ◌&&◌, List, [], ◌∷◌, length, take, drop, refl, sym, ap, ◌∙◌, arith, subst, eqb, ⊎_elim, zero-add, if◌then◌else◌}
use Rattle.std.specs.List.{after_first}
use Rattle.std.proofs.lemmas.Bool.{cases_Bool}
use Rattle.envcfg_core.specs.Import.{Spelled, spelled, with_byte, ended_by_newline}
use Rattle.text_parts.specs.Bytes.{is_newline}
use Rattle.fw_check.specs.EntryPlaces.{Spells, after_lines, is_escape, spelled_length}

-- nothing spells no bytes
pub spelled-none : (escaped : Bool) (text : List ℕ) → spelled_length escaped 0 text ≡ 0
unfolding spelled_length
spelled-none escaped [] = refl
spelled-none escaped (b ∷ bs) = refl

pub spelled-end : (escaped : Bool) (count : ℕ) → spelled_length escaped count [] ≡ 0
unfolding spelled_length
spelled-end escaped count = refl

-- one byte more
spelled-escaped : (n b : ℕ) (bs : List ℕ) → spelled_length true (suc n) (b ∷ bs) ≡ suc (spelled_length false n bs)
unfolding spelled_length
spelled-escaped n b bs = refl

spelled-escape : (n b : ℕ) (bs : List ℕ) → eqb b 92 ≡ true → spelled_length false (suc n) (b ∷ bs) ≡ suc (spelled_length true (suc n) bs)
unfolding spelled_length
spelled-escape n b bs h = rw h refl

spelled-plain : (n b : ℕ) (bs : List ℕ) → eqb b 92 ≡ false → spelled_length false (suc n) (b ∷ bs) ≡ suc (spelled_length false n bs)
unfolding spelled_length
spelled-plain n b bs h = rw h refl

and-false : (b : Bool) → (b && false) ≡ false
and-false true = refl
and-false false = refl

and-true : (b : Bool) → (b && true) ≡ b
and-true true = refl
and-true false = refl

-- what is left to be spelled after it
abbrev pub left_after : Bool → ℕ → ℕ
left_after escaped left = if escaped then left else left - 1

pub spelled-next : (escaped now : Bool) (left b : ℕ) (bs : List ℕ) → (left ≡ 0 → ⊥) → now ≡ is_escape escaped b →
    spelled_length escaped left (b ∷ bs) ≡ suc (spelled_length now (left_after now left) bs)
spelled-next escaped now zero b bs some is = absurd (some refl)
spelled-next true now (suc n) b bs some is =
    let one_less : n ≡ suc n - 1 = omega arith in
    spelled-escaped n b bs ∙ ap (λ (m : ℕ). suc (spelled_length false m bs)) one_less ∙ ap (λ (e : Bool). suc (spelled_length e (left_after e (suc n)) bs)) (sym (is ∙ and-false (eqb b 92)))
spelled-next false now (suc n) b bs some is =
    ⊎_elim
    (λ yes. spelled-escape n b bs yes ∙ ap (λ (e : Bool). suc (spelled_length e (left_after e (suc n)) bs)) (sym (is ∙ and-true (eqb b 92) ∙ yes)))
    (λ other.
    let one_less : n ≡ suc n - 1 = omega arith in
    spelled-plain n b bs other ∙ ap (λ (m : ℕ). suc (spelled_length false m bs)) one_less ∙ ap (λ (e : Bool). suc (spelled_length e (left_after e (suc n)) bs)) (sym (is ∙ and-true (eqb b 92) ∙ other)))
    (cases_Bool (eqb b 92))

left-sum : (now : Bool) (n more : ℕ) → left_after now (suc (n + more)) ≡ left_after now (suc n) + more
left-sum true n more = let e : suc (n + more) ≡ suc n + more = omega arith in e
left-sum false n more = let e : suc (n + more) - 1 ≡ suc n - 1 + more = omega arith in e

left-some : (now : Bool) (n : ℕ) → now ≡ true → 1 ≤ left_after now (suc n)
left-some true n h = let some : 1 ≤ suc n = omega arith in some
left-some false n h = absurd (let no : false ≡ true = h in cc)

not-none : (n : ℕ) → suc n ≡ 0 → ⊥
not-none n h = omega (arith, h)

-- first so many, and then so many more
pub spelled-sum : (text : List ℕ) (escaped : Bool) (count more : ℕ) → (escaped ≡ true → 1 ≤ count) →
    spelled_length escaped (count + more) text ≡ spelled_length escaped count text + spelled_length false more (drop (spelled_length escaped count text) text)
spelled-sum text false zero more some =
    ap (λ (c : ℕ). spelled_length false c text) (zero-add more) ∙ sym (zero-add (spelled_length false more text))
    ∙ ap (λ (n : ℕ). n + spelled_length false more (drop n text)) (sym (spelled-none false text))
spelled-sum text true zero more some = absurd (let no : 1 ≤ 0 = some refl in omega arith)
spelled-sum [] escaped (suc n) more some =
    spelled-end escaped (suc n + more) ∙ sym (zero-add 0) ∙ ap (λ (x : ℕ). 0 + x) (sym (spelled-end false more))
    ∙ ap (λ (x : ℕ). x + spelled_length false more (drop x [])) (sym (spelled-end escaped (suc n)))
spelled-sum (b ∷ bs) escaped (suc n) more some =
    let now = is_escape escaped b in
    let k = left_after now (suc n) in
    let one = spelled_length now k bs in
    let total : suc n + more ≡ suc (n + more) = omega arith in
    let whole : spelled_length escaped (suc n + more) (b ∷ bs) ≡ suc (spelled_length now (left_after now (suc (n + more))) bs) =
    ap (λ (c : ℕ). spelled_length escaped c (b ∷ bs)) total ∙ spelled-next escaped now (suc (n + more)) b bs (λ h. not-none (n + more) h) refl in
    let later = spelled-sum bs now k more (left-some now n) in
    let two = spelled_length false more (drop one bs) in
    let counted : suc (one + two) ≡ suc one + two = omega arith in
    whole ∙ ap (λ (c : ℕ). suc (spelled_length now c bs)) (left-sum now n more) ∙ ap suc later ∙ counted
    ∙ ap (λ (m : ℕ). m + spelled_length false more (drop m (b ∷ bs))) (sym (spelled-next escaped now (suc n) b bs (λ h. not-none n h) refl))

-- ---- the bytes that so much of a text spells

pub newline-ends : (b : ℕ) (bs : List ℕ) → is_newline b ≡ true → spelled false (b ∷ bs) ≡ ended_by_newline bs
newline-ends b bs h = rw h refl

pub escape-begins : (b : ℕ) (bs : List ℕ) → is_newline b ≡ false → eqb b 92 ≡ true → spelled false (b ∷ bs) ≡ spelled true bs
escape-begins b bs other slash = rw (other, slash) refl

pub byte-stands : (b : ℕ) (bs : List ℕ) → is_newline b ≡ false → eqb b 92 ≡ false → spelled false (b ∷ bs) ≡ with_byte b (spelled false bs)
byte-stands b bs other none = rw (other, none) refl

pub never : {A : Type 0} → false ≡ true → A
never h = absurd (let no : false ≡ true = h in cc)

pub spelled-so : (text : List ℕ) (escaped : Bool) (count : ℕ) → (escaped ≡ true → 1 ≤ count) → count ≤ length (spelled escaped text).bytes →
    (spelled escaped (take (spelled_length escaped count text) text)).bytes ≡ take count (spelled escaped text).bytes
spelled-so text false zero some within = ap (λ (n : ℕ). (spelled false (take n text)).bytes) (spelled-none false text)
spelled-so text true zero some within = absurd (let no : 1 ≤ 0 = some refl in omega arith)
spelled-so [] false (suc n) some within = absurd (omega (arith, within))
spelled-so [] true (suc zero) some within = ap (λ (n : ℕ). (spelled true (take n [])).bytes) (spelled-end true 1)
spelled-so [] true (suc (suc n)) some within = absurd (omega (arith, within))
spelled-so (b ∷ bs) true (suc n) some within =
    let fits : n ≤ length (spelled false bs).bytes = omega (arith, within) in
    ap (λ (m : ℕ). (spelled true (take m (b ∷ bs))).bytes) (spelled-escaped n b bs) ∙ ap (λ (xs : List ℕ). b ∷ xs) (spelled-so bs false n (λ h. never h) fits)
spelled-so (b ∷ bs) false (suc n) some within =
    ⊎_elim
    (λ ends. absurd (let none : suc n ≤ 0 = subst (λ (v : Spelled). suc n ≤ length v.bytes) (newline-ends b bs ends) within in omega arith))
    (λ other. ⊎_elim
    (λ yes.
    let fits : suc n ≤ length (spelled true bs).bytes = subst (λ (v : Spelled). suc n ≤ length v.bytes) (escape-begins b bs other yes) within in
    ap (λ (m : ℕ). (spelled false (take m (b ∷ bs))).bytes) (spelled-escape n b bs yes)
    ∙ ap (λ (v : Spelled). v.bytes) (escape-begins b (take (spelled_length true (suc n) bs) bs) other yes)
    ∙ spelled-so bs true (suc n) (λ h. omega arith) fits
    ∙ ap (λ (v : Spelled). take (suc n) v.bytes) (sym (escape-begins b bs other yes)))
    (λ plain.
    let more : suc n ≤ suc (length (spelled false bs).bytes) = subst (λ (v : Spelled). suc n ≤ length v.bytes) (byte-stands b bs other plain) within in
    let fits : n ≤ length (spelled false bs).bytes = omega (arith, more) in
    ap (λ (m : ℕ). (spelled false (take m (b ∷ bs))).bytes) (spelled-plain n b bs plain)
    ∙ ap (λ (v : Spelled). v.bytes) (byte-stands b (take (spelled_length false n bs) bs) other plain)
    ∙ ap (λ (xs : List ℕ). b ∷ xs) (spelled-so bs false n (λ h. never h) fits)
    ∙ ap (λ (v : Spelled). take (suc n) v.bytes) (sym (byte-stands b bs other plain)))
    (cases_Bool (eqb b 92)))
    (cases_Bool (is_newline b))

pub spells-so : (text : List ℕ) (count n : ℕ) → n ≡ spelled_length false count text → Spells text count n
spells-so text count n is within = ap (λ (m : ℕ). (spelled false (take m text)).bytes) is ∙ spelled-so text false count (λ h. never h) within

-- ---- lines

pub lines-none : (text : List ℕ) → after_lines 0 text ≡ text
unfolding after_lines
lines-none text = refl

pub lines-next : (n : ℕ) (text : List ℕ) → after_lines (suc n) text ≡ after_lines n (after_first is_newline text)
unfolding after_lines
lines-next n text = refl
