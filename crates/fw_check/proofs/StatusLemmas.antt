-- What a word has, part by part.
use Rattle.std.proofs.Common.{◌≡◌, ℕ, Bool, true, false, ◌||◌, List, [], ◌∷◌, ◌++◌, map, refl, sym, ap, ◌∙◌}
use Rattle.std.specs.List.{list_any}
use Rattle.hush_words.specs.Words.{Atom}
use Rattle.hush_words.specs.Words.Atom.{Plain, Quoted}
use Rattle.fw_check.specs.Literals.{is_mark, is_shown}

pub plain-shown : (bs : List ℕ) → list_any is_shown (map Plain bs) ≡ false
plain-shown [] = refl
plain-shown (b ∷ bs) = plain-shown bs

pub quoted-shown : (bs : List ℕ) → list_any is_shown (map Quoted bs) ≡ false
quoted-shown [] = refl
quoted-shown (b ∷ bs) = quoted-shown bs

pub plain-mark : (bs : List ℕ) → list_any is_mark (map Plain bs) ≡ false
plain-mark [] = refl
plain-mark (b ∷ bs) = plain-mark bs

pub quoted-mark : (bs : List ℕ) → list_any is_mark (map Quoted bs) ≡ false
quoted-mark [] = refl
quoted-mark (b ∷ bs) = quoted-mark bs

module _ (is : Atom → Bool) where
  or-any : (b : Bool) (xs ys : List Atom) → (b || (list_any is xs || list_any is ys)) ≡ ((b || list_any is xs) || list_any is ys)
  or-any true xs ys = refl
  or-any false xs ys = refl

  any-append : (xs ys : List Atom) → list_any is (xs ++ ys) ≡ (list_any is xs || list_any is ys)
  any-append [] ys = refl
  any-append (x ∷ xs) ys = ap (λ (b : Bool). is x || b) (any-append xs ys) ∙ or-any (is x) xs ys

  -- a part without it was read
  pub any-on : (all left part rest : List Atom) → left ≡ part ++ rest → false ≡ list_any is part → list_any is left ≡ list_any is all → list_any is rest ≡ list_any is all
  any-on all left part rest cut none so_far =
      ap (λ (b : Bool). b || list_any is rest) none ∙ sym (any-append part rest) ∙ ap (list_any is) (sym cut) ∙ so_far

  -- a part with it
  pub any-found : (all left part rest : List Atom) → left ≡ part ++ rest → true ≡ list_any is part → list_any is left ≡ list_any is all → true ≡ list_any is all
  any-found all left part rest cut some so_far =
      ap (λ (b : Bool). b || list_any is rest) some ∙ sym (any-append part rest) ∙ ap (list_any is) (sym cut) ∙ so_far
