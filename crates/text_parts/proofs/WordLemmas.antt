-- The words of a text, one by one: its first word, if it begins with one, and what follows.
use Rattle.std.proofs.Common.{◌≡◌, ℕ, ◌+◌, ◌-◌, ◌<◌, Bool, true, false, eqb, not, List, [], ◌∷◌, length, take, drop, filter, None, Some, sym, ap, ◌∙◌, arith}
use Rattle.std.specs.List.{position_or_len, before_first, after_first}
use Rattle.std.proofs.lemmas.Bool.{cond-true, ne_eqb, eqb-false}
use Rattle.std.proofs.lemmas.List.{length-take}
use Rattle.std.proofs.lemmas.List.Splits.{slice_split_first, slice_split_none}
use Rattle.memchr.specs.Find.{IsFirstByte}
use Rattle.text_parts.specs.Bytes.{begins}
use Rattle.text_parts.specs.Words.{words_between}
use Rattle.text_parts.proofs.CutLemmas.{position_or_len-found, position_or_len-no, before_first-found, after_first-found, none_pass}

abbrev is_filled : List ℕ → Bool
is_filled word = not (eqb (length word) 0)

filled : (xs : List ℕ) → 0 < length xs → is_filled xs ≡ true
filled xs h = ap not (ne_eqb (length xs) 0 (λ e. omega arith))

-- a text that begins with a word: it ends at the first byte that passes
first_place : (p : ℕ → Bool) (text : List ℕ) → begins p text ≡ false → 0 < length text → 0 < position_or_len p text
first_place p [] h some = absurd (omega arith)
first_place p (b ∷ bs) h some = omega (arith, position_or_len-no p b bs h)

pub words-first : (p : ℕ → Bool) (text : List ℕ) (at : ℕ) → begins p text ≡ false → eqb (length text) 0 ≡ false → IsFirstByte p text (Some at) →
    words_between p text ≡ take at text ∷ words_between p (take (length text - (at + 1)) (drop (at + 1) text))
words-first p text at h some found =
    let k = position_or_len-found p text at found in
    let len : 0 < length text = let ne = eqb-false (length text) 0 some in omega arith in
    let place = first_place p text h len in
    let within : position_or_len p text < length text = omega (arith, found.0.high) in
    let front = before_first p text in
    let front_len : 0 < length front = omega (arith, length-take (position_or_len p text) text) in
    let back = after_first p text in
    ap (filter is_filled) (slice_split_first p text 0 within) ∙ cond-true _ _ _ (filled front front_len)
    ∙ ap (λ xs. xs ∷ words_between p back) (sym (before_first-found p text at found))
    ∙ ap (λ xs. take at text ∷ words_between p xs) (sym (after_first-found p text at found))

pub words-last : (p : ℕ → Bool) (text : List ℕ) → eqb (length text) 0 ≡ false → IsFirstByte p text None → words_between p text ≡ text ∷ []
words-last p text some none =
    ap (filter is_filled) (slice_split_none p text (none_pass p text none)) ∙ cond-true _ _ _ (ap not some)
