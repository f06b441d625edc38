-- A value's text, cut at its first `\` or newline.
use Rattle.std.proofs.Common.{◌≡◌, ℕ, suc, ◌+◌, eqb, zero-add, add_assoc, false, List, [], Option, None, Some, ◌∷◌, ◌++◌, length, take, drop, refl, sym, ap, ◌∙◌, subst, ⊎_elim, arith}
use Rattle.std.specs.List.{position_or_len}
use Rattle.std.proofs.lemmas.Bool.{cases_Bool, or_parts}
use Rattle.std.proofs.lemmas.List.{append_assoc, take_all, drop_all}
use Rattle.text_parts.specs.Bytes.{is_newline}
use Rattle.envcfg_core.specs.Import.{Spelled, spelled}
use Rattle.envcfg_core.specs.ImportSteps.{onto}
use Rattle.envcfg_core.specs.Bytes.{is_marked}
use Rattle.text_parts.proofs.CutLemmas.{position_or_len-yes, position_or_len-no, position_or_len-none, position_or_len-found}
use Rattle.memchr.specs.Find.{IsFirstByte}

pub onto_none : (v : Spelled) → v ≡ onto [] 0 v
onto_none v =
    let f : ℕ → Spelled = λ n. record { bytes = v.bytes; newlines = n; rest = v.rest } in ap f (sym (zero-add v.newlines))

pub onto_onto : (xs ys : List ℕ) (m n : ℕ) (v : Spelled) → onto xs m (onto ys n v) ≡ onto (xs ++ ys) (m + n) v
onto_onto xs ys m n v =
    let f : List ℕ → ℕ → Spelled = λ bytes newlines. record { bytes = bytes; newlines = newlines; rest = v.rest } in
    ap (λ bytes. f bytes (m + (n + v.newlines))) (sym (append_assoc xs ys v.bytes)) ∙ ap (f ((xs ++ ys) ++ v.bytes)) (sym (add_assoc m n v.newlines))

-- a byte that isn't marked stands for itself
pub spelled-byte : (b : ℕ) (bs : List ℕ) → is_marked b ≡ false → spelled false (b ∷ bs) ≡ onto (b ∷ []) 0 (spelled false bs)
spelled-byte b bs h =
    let parts = or_parts _ (is_newline b) h in
    let plain : is_newline b ≡ false = parts.1 in
    let kept : eqb b 92 ≡ false = parts.0 in
    rw (plain, kept) refl

-- the bytes before the first marked one stand for themselves
pub spelled-cut : (text : List ℕ) →
    let k = position_or_len is_marked text in spelled false text ≡ onto (take k text) 0 (spelled false (drop k text))
spelled-cut [] = refl
spelled-cut (b ∷ bs) =
    let P : ℕ → Type 0 = λ k. spelled false (b ∷ bs) ≡ onto (take k (b ∷ bs)) 0 (spelled false (drop k (b ∷ bs))) in
    let k = position_or_len is_marked bs in
    let next : 1 + k ≡ suc k = omega arith in
    ⊎_elim
    (λ h. subst P (sym (position_or_len-yes is_marked b bs h)) (onto_none (spelled false (b ∷ bs))))
    (λ h. subst P (sym (position_or_len-no is_marked b bs h ∙ next))
    (spelled-byte b bs h ∙ ap (onto (b ∷ []) 0) (spelled-cut bs) ∙ onto_onto (b ∷ []) (take k bs) 0 0 (spelled false (drop k bs))))
    (cases_Bool (is_marked b))

-- if no byte is marked the whole text is the value
pub spelled_without_marks : (text : List ℕ) (r : Option ℕ) → IsFirstByte is_marked text r → ((k : ℕ) → r ≡ Some k → ⊥) →
    spelled false text ≡ onto text 0 (spelled false [])
spelled_without_marks text None none not_found =
    let k = position_or_len is_marked text in
    let all : k ≡ length text = position_or_len-none is_marked text none in
    spelled-cut text ∙ ap (λ xs. onto xs 0 (spelled false (drop k text))) (take_all k text (omega arith)) ∙ ap (λ xs. onto text 0 (spelled false xs)) (drop_all k text (omega arith))
spelled_without_marks text (Some k) found not_found = absurd (not_found k refl)

-- the bytes before the first marked one, and what the text says from there on
pub spelled_at_mark : (text : List ℕ) (at : ℕ) (front back : List ℕ) (stop : Spelled) → IsFirstByte is_marked text (Some at) →
    front ≡ take at text → back ≡ drop at text → stop ≡ spelled false back → spelled false text ≡ onto front 0 stop
spelled_at_mark text at front back stop found f b s =
    let e = position_or_len-found is_marked text at found in
    let P : ℕ → Type 0 = λ k. spelled false text ≡ onto (take k text) 0 (spelled false (drop k text)) in
    subst P e (spelled-cut text) ∙ ap (λ xs. onto xs 0 (spelled false (drop at text))) (sym f) ∙ ap (λ xs. onto front 0 (spelled false xs)) (sym b) ∙ ap (onto front 0) (sym s)
