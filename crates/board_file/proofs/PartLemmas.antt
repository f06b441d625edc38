-- A line cut at its arrow, and a text without the blanks at its end.
use Rattle.std.proofs.Common.{◌≡◌, ℕ, ◌+◌, ◌&&◌, zero, suc, Bool, true, false, List, [], ◌∷◌, ◌++◌, length, take, drop, reverse, Option, Some, None, refl, sym, ap, ◌∙◌, arith}
use Rattle.std.specs.Prelude.{option_map, if◌then◌else◌}
use Rattle.std.specs.Borrow.{Bor}
use Rattle.std.proofs.lemmas.Bool.{cond-true, cond-false}
use Rattle.std.proofs.lemmas.List.{reverse-append, reverse-reverse, append_assoc}
use Rattle.text_parts.specs.Bytes.{is_blank, without_blanks}
use Rattle.text_parts.proofs.CutLemmas.{before_first-found, list_any-answer}
use Rattle.memchr.specs.Find.{IsFirstByte}
use Rattle.hush_commands.specs.CommandNames.{is_dot, without_width}
use Rattle.board_file.specs.Patterns.{names_builtin, only_widths}
use Rattle.board_file.specs.BoardLines.{Parts, behind_arrow, cut_at_arrow, cut_by, cut_from, with_byte}

-- parts with what was passed before them
abbrev pub after : List ℕ → Option Parts → Option Parts
after front parts = option_map (λ found. (front ++ found.0, found.1)) parts

passed : (front : List ℕ) (b : ℕ) (parts : Option Parts) → after front (with_byte b parts) ≡ after (front ++ b ∷ []) parts
passed front b None = refl
passed front b (Some parts) = ap (λ (bytes : List ℕ). Some (bytes, parts.1)) (sym (append_assoc front (b ∷ []) parts.0))

take_next : (n : ℕ) (xs : List ℕ) (b : ℕ) (bs : List ℕ) → b ∷ bs ≡ drop n xs → take (suc n) xs ≡ take n xs ++ b ∷ []
take_next zero [] b bs h = absurd (let f : b ∷ bs ≡ [] = h in cc)
take_next zero (x ∷ xs) b bs h = ap (λ (ys : List ℕ). take 1 ys) (sym h)
take_next (suc n) [] b bs h = absurd (let f : b ∷ bs ≡ [] = h in cc)
take_next (suc n) (x ∷ xs) b bs h = ap (λ (ys : List ℕ). x ∷ ys) (take_next n xs b bs h)

drop_next_one : (n : ℕ) (xs : List ℕ) (b : ℕ) (bs : List ℕ) → b ∷ bs ≡ drop n xs → bs ≡ drop (suc n) xs
drop_next_one zero [] b bs h = absurd (let f : b ∷ bs ≡ [] = h in cc)
drop_next_one zero (x ∷ xs) b bs h = ap (λ (ys : List ℕ). drop 1 ys) h
drop_next_one (suc n) [] b bs h = absurd (let f : b ∷ bs ≡ [] = h in cc)
drop_next_one (suc n) (x ∷ xs) b bs h = drop_next_one n xs b bs h

drop_next : (n : ℕ) (xs : List ℕ) (b : ℕ) (bs : List ℕ) → b ∷ bs ≡ drop n xs → bs ≡ drop (n + 1) xs
drop_next n xs b bs h = let e : suc n ≡ n + 1 = omega arith in drop_next_one n xs b bs h ∙ ap (λ (m : ℕ). drop m xs) e

-- one byte further
no_arrow : (line : List ℕ) (at : ℕ) (begins : Bool) (b : ℕ) (bs : List ℕ) → b ∷ bs ≡ drop at line → None ≡ (if begins then behind_arrow (b ∷ bs) else None) →
    after (take at line) (cut_from begins (b ∷ bs)) ≡ after (take (at + 1) line) (cut_from (is_blank b) bs)
no_arrow line at begins b bs at_line none =
    let later = cut_from (is_blank b) bs in
    let e : suc at ≡ at + 1 = omega arith in
    ap (λ (behind : Option (List ℕ)). after (take at line) (cut_by behind (with_byte b later))) (sym none)
    ∙ passed (take at line) b later
    ∙ ap (λ (front : List ℕ). after front later) (sym (take_next at line b bs at_line))
    ∙ ap (λ (m : ℕ). after (take m line) later) e

pub further : (line rest : List ℕ) (at : ℕ) (begins next : Bool) (b : ℕ) (bs : List ℕ) (found : Option (Bor (List ℕ))) → rest ≡ b ∷ bs →
    (cut_at_arrow line ≡ after (take at line) (cut_from begins rest)) × (rest ≡ drop at line) × (at + length rest ≡ length line) →
    found ≡ None → option_map (λ behind. behind.now) found ≡ (if begins then behind_arrow rest else None) → next ≡ is_blank b →
    (cut_at_arrow line ≡ after (take (at + 1) line) (cut_from next bs)) × (bs ≡ drop (at + 1) line) × (at + 1 + length bs ≡ length line)
further line rest at begins next b bs found is before none at_rest blank =
    let here : b ∷ bs ≡ drop at line = sym is ∙ before.1 in
    let nothing : None ≡ (if begins then behind_arrow (b ∷ bs) else None) =
    ap (λ (o : Option (Bor (List ℕ))). option_map (λ behind. behind.now) o) (sym none) ∙ at_rest ∙ ap (λ (xs : List ℕ). if begins then behind_arrow xs else None) is in
    let len = ap length is in (
      before.0 ∙ ap (λ (xs : List ℕ). after (take at line) (cut_from begins xs)) is ∙ no_arrow line at begins b bs here nothing
          ∙ ap (λ (x : Bool). after (take (at + 1) line) (cut_from x bs)) (sym blank),
      drop_next at line b bs here,
      omega (arith, len, before.2),
    )

-- the last byte of a text is a blank, or isn't
pub blank_last : (front : List ℕ) (b : ℕ) → is_blank b ≡ true → reverse (without_blanks (reverse (front ++ b ∷ []))) ≡ reverse (without_blanks (reverse front))
blank_last front b blank =
    ap (λ (xs : List ℕ). reverse (without_blanks xs)) (reverse-append front (b ∷ []))
    ∙ ap reverse (cond-true (is_blank b) (without_blanks (reverse front)) (b ∷ reverse front) blank)

pub other_last : (front : List ℕ) (b : ℕ) → is_blank b ≡ false → reverse (without_blanks (reverse (front ++ b ∷ []))) ≡ front ++ b ∷ []
other_last front b other =
    ap (λ (xs : List ℕ). reverse (without_blanks xs)) (reverse-append front (b ∷ []))
    ∙ ap reverse (cond-false (is_blank b) (without_blanks (reverse front)) (b ∷ reverse front) other)
    ∙ ap reverse (sym (reverse-append front (b ∷ [])))
    ∙ reverse-reverse (front ++ b ∷ [])

-- names with a width
pub widths-found : (text : List ℕ) (at : ℕ) → IsFirstByte is_dot text (Some at) → names_builtin (take at text) ≡ only_widths text
widths-found text at found =
    ap names_builtin (before_first-found is_dot text at found)
    ∙ ap (λ (b : Bool). b && names_builtin (without_width text)) (list_any-answer is_dot text (Some at) found)

pub widths-none : (text : List ℕ) → IsFirstByte is_dot text None → false ≡ only_widths text
widths-none text none = ap (λ (b : Bool). b && names_builtin (without_width text)) (list_any-answer is_dot text None none)
