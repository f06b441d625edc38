-- The lines of a set script that are skipped.
use Rattle.std.proofs.Common.{◌≡◌, ℕ, ◌||◌, ◌&&◌, Bool, false, eqb, List, [], ◌∷◌, length, refl, sym, ap, ◌∙◌, ⊎_elim, arith}
use Rattle.std.specs.List.{list_all}
use Rattle.std.proofs.lemmas.Bool.{cases_Bool, cond-true, cond-false, ne_eqb}
use Rattle.text_parts.specs.Bytes.{begins_with, is_blank, without_blanks, hash}
use Rattle.envcfg_core.specs.SetScript.{is_skipped_line}

-- a line of blanks alone has nothing after its blanks
blank_line : (line : List ℕ) → eqb (length (without_blanks line)) 0 ≡ list_all is_blank line
blank_line [] = refl
blank_line (b ∷ bs) =
    ⊎_elim
    (λ h. ap (λ xs. eqb (length xs) 0) (cond-true (is_blank b) (without_blanks bs) (b ∷ bs) h) ∙ blank_line bs ∙ sym (ap (λ t. t && list_all is_blank bs) h))
    (λ h. ap (λ xs. eqb (length xs) 0) (cond-false (is_blank b) (without_blanks bs) (b ∷ bs) h) ∙ ne_eqb _ 0 (λ e. omega arith) ∙ sym (ap (λ t. t && list_all is_blank bs) h))
    (cases_Bool (is_blank b))

or-false : (x y r : Bool) → x ≡ false → r ≡ y → r ≡ (x || y)
or-false x y r h e = e ∙ sym (ap (λ b. b || y) h)

pub is_skipped_line-is : (line : List ℕ) (begun r : Bool) → begun ≡ begins_with hash line → begun ≡ false → r ≡ eqb (length (without_blanks line)) 0 → r ≡ is_skipped_line line
is_skipped_line-is line begun r is none h = or-false (begins_with hash line) (list_all is_blank line) r (sym is ∙ none) (h ∙ blank_line line)
