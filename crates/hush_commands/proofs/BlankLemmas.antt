-- A line without the blanks at its front.
use Rattle.std.proofs.Common.{◌≡◌, ℕ, true, false, not, eqb, List, [], ◌∷◌, length, filter, refl, sym, ap, ◌∙◌, ⊎_elim, arith}
use Rattle.std.proofs.lemmas.Bool.{cases_Bool, cond-true, cond-false, eqb-true}
use Rattle.std.proofs.lemmas.List.Splits.{slice_split-cons_yes}
use Rattle.text_parts.specs.Bytes.{begins, is_blank, without_blanks}
use Rattle.hush_commands.specs.StandInLines.{words_of}

-- it has the same words
pub words-without_blanks : (line : List ℕ) → words_of line ≡ words_of (without_blanks line)
words-without_blanks [] = refl
words-without_blanks (b ∷ bs) =
    ⊎_elim
    (λ yes. ap (filter (λ word. not (eqb (length word) 0))) (slice_split-cons_yes is_blank b bs yes) ∙ words-without_blanks bs
    ∙ ap words_of (sym (cond-true (is_blank b) (without_blanks bs) (b ∷ bs) yes)))
    (λ no. ap words_of (sym (cond-false (is_blank b) (without_blanks bs) (b ∷ bs) no)))
    (cases_Bool (is_blank b))

-- and begins with none
pub begins-without_blanks : (line : List ℕ) → begins is_blank (without_blanks line) ≡ false
begins-without_blanks [] = refl
begins-without_blanks (b ∷ bs) =
    ⊎_elim
    (λ yes. ap (begins is_blank) (cond-true (is_blank b) (without_blanks bs) (b ∷ bs) yes) ∙ begins-without_blanks bs)
    (λ no. ap (begins is_blank) (cond-false (is_blank b) (without_blanks bs) (b ∷ bs) no) ∙ no)
    (cases_Bool (is_blank b))

-- an empty one has no words
pub words-nothing : (line : List ℕ) → eqb (length line) 0 ≡ true → words_of line ≡ []
words-nothing [] h = refl
words-nothing (b ∷ bs) h = let e = eqb-true (length (b ∷ bs)) 0 h in absurd (omega arith)
