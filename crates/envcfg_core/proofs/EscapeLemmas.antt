-- The length of an escaped value, and where it is cut.
use Rattle.std.proofs.Common.{◌≡◌, ℕ, suc, ◌+◌, ◌*◌, ◌≤◌, Bool, true, false, cond, List, [], ◌∷◌, ◌++◌, length, get_or, take, drop, Option, None, Some, refl, sym, ap, ◌∙◌, subst, ⊎_elim, arith}
use Rattle.std.specs.List.{position_or_len}
use Rattle.std.proofs.lemmas.Bool.{cases_Bool, cond-true, cond-false, true≢false}
use Rattle.std.proofs.lemmas.List.{append_assoc, append-nil, length-append, take_all, drop_all, drop_more}
use Rattle.memchr.specs.Find.{IsFirstByte}
use Rattle.envcfg_core.specs.Bytes.{backslash, is_marked}
use Rattle.text_parts.specs.Bytes.{begins}
use Rattle.envcfg_core.specs.Export.{escaped, escaped_byte}
use Rattle.text_parts.proofs.CutLemmas.{position_or_len-yes, position_or_len-no, position_or_len-found, position_or_len-none}

at_most_two : (b : ℕ) (s : Bool) → length (cond s (backslash ∷ b ∷ []) (b ∷ [])) ≤ 2
at_most_two b true = omega arith
at_most_two b false = omega arith

pub length-escaped-le : (value : List ℕ) → length (escaped value) ≤ 2 * length value
length-escaped-le [] = omega arith
length-escaped-le (b ∷ bs) =
    let x = length-append (escaped_byte b) (escaped bs) in
    let z = length-escaped-le bs in
    let y : length (escaped_byte b) ≤ 2 = at_most_two b (is_marked b) in
    omega arith

escaped_plain : (b : ℕ) → is_marked b ≡ false → escaped_byte b ≡ b ∷ []
escaped_plain b h = cond-false _ _ _ h

pub escaped-cut : (value : List ℕ) →
    let k = position_or_len is_marked value in escaped value ≡ take k value ++ escaped (drop k value)
escaped-cut [] = refl
escaped-cut (b ∷ bs) =
    let P : ℕ → Type 0 = λ k. escaped (b ∷ bs) ≡ take k (b ∷ bs) ++ escaped (drop k (b ∷ bs)) in
    let k = position_or_len is_marked bs in
    let next : 1 + k ≡ suc k = omega arith in
    ⊎_elim
    (λ h. subst P (sym (position_or_len-yes is_marked b bs h)) refl)
    (λ h. subst P (sym (position_or_len-no is_marked b bs h ∙ next))
    (ap (λ xs. xs ++ escaped bs) (escaped_plain b h) ∙ ap (λ xs. b ∷ xs) (escaped-cut bs)))
    (cases_Bool (is_marked b))

-- if no byte is marked the value is its own text
pub escaped_without_marks : (value : List ℕ) (r : Option ℕ) → IsFirstByte is_marked value r → ((k : ℕ) → r ≡ Some k → ⊥) → escaped value ≡ value
escaped_without_marks value None none not_found =
    let k = position_or_len is_marked value in
    let all : k ≡ length value = position_or_len-none is_marked value none in
    escaped-cut value ∙ ap (λ xs. xs ++ escaped (drop k value)) (take_all k value (omega arith))
    ∙ ap (λ xs. value ++ escaped xs) (drop_all k value (omega arith)) ∙ append-nil value
escaped_without_marks value (Some k) found not_found = absurd (not_found k refl)

escaped_marked : (value : List ℕ) → begins is_marked value ≡ true → escaped value ≡ (backslash ∷ take 1 value) ++ escaped (drop 1 value)
escaped_marked [] h = absurd (true≢false (sym h))
escaped_marked (b ∷ bs) h = ap (λ xs. xs ++ escaped bs) (cond-true _ _ _ h)

-- the value before its first marked byte, that byte, and the rest
pub escaped_at_mark : (value front back marked others : List ℕ) (at : ℕ) → IsFirstByte is_marked value (Some at) →
    front ≡ take at value → back ≡ drop at value → marked ≡ take 1 back → others ≡ drop 1 back →
    escaped value ≡ ((front ++ backslash ∷ []) ++ marked) ++ escaped others
escaped_at_mark value front back marked others at found f b m o =
    let e = position_or_len-found is_marked value at found in
    let P : ℕ → Type 0 = λ k. escaped value ≡ take k value ++ escaped (drop k value) in
    let Q : List ℕ → Type 0 = λ xs. begins is_marked xs ≡ true in
    let here : drop at value ≡ get_or value at 0 ∷ drop (at + 1) value = drop_more value at 0 (found.0.high) in
    let begins : begins is_marked back ≡ true = subst Q (sym (b ∙ here)) found.1 in
    subst P e (escaped-cut value)
    ∙ ap (λ xs. xs ++ escaped (drop at value)) (sym f)
    ∙ ap (λ xs. front ++ escaped xs) (sym b)
    ∙ ap (λ xs. front ++ xs) (escaped_marked back begins ∙ ap (λ xs. (backslash ∷ xs) ++ escaped (drop 1 back)) (sym m) ∙ ap (λ xs. (backslash ∷ marked) ++ escaped xs) (sym o))
    ∙ simp append_assoc

pub length-escaped_at_mark : (value front back marked others : List ℕ) (at : ℕ) → IsFirstByte is_marked value (Some at) →
    front ≡ take at value → back ≡ drop at value → marked ≡ take 1 back → others ≡ drop 1 back →
    length (escaped value) ≡ length front + 1 + length marked + length (escaped others)
length-escaped_at_mark value front back marked others at found f b m o =
    ap length (escaped_at_mark value front back marked others at found f b m o)
    ∙ length-append ((front ++ backslash ∷ []) ++ marked) (escaped others)
    ∙ ap (λ n. n + length (escaped others)) (length-append (front ++ backslash ∷ []) marked ∙ ap (λ n. n + length marked) (length-append front (backslash ∷ [])))

-- an output to which these parts were appended, one after the other
pub appended_at_mark : (o o1 o2 o3 front marked rest others whole : List ℕ) → o1 ≡ o ++ front → o2 ≡ o1 ++ backslash ∷ [] → o3 ≡ o2 ++ marked →
    rest ≡ ((front ++ backslash ∷ []) ++ marked) ++ others → o ++ rest ≡ whole → o3 ++ others ≡ whole
appended_at_mark o o1 o2 o3 front marked rest others whole a b c r w =
    let parts : o3 ≡ ((o ++ front) ++ backslash ∷ []) ++ marked = c ∙ ap (λ xs. xs ++ marked) (b ∙ ap (λ xs. xs ++ backslash ∷ []) a) in
    let regroup : (((o ++ front) ++ backslash ∷ []) ++ marked) ++ others ≡ o ++ (((front ++ backslash ∷ []) ++ marked) ++ others) = simp append_assoc in
    ap (λ xs. xs ++ others) parts ∙ regroup ∙ ap (λ xs. o ++ xs) (sym r) ∙ w
