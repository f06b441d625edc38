-- The plain bytes of a word, part by part.
use Rattle.std.proofs.Common.{◌≡◌, ℕ, List, [], ◌∷◌, ◌++◌, map, refl, sym, ap, ◌∙◌, append_assoc}
use Rattle.hush_words.specs.Words.{Atom}
use Rattle.hush_words.specs.Words.Atom.{Plain, Quoted, Mark, Value, Status}
use Rattle.fw_check.specs.Foreign.{plain_of}

pub plain-plain : (bs : List ℕ) → plain_of (map Plain bs) ≡ bs
plain-plain [] = refl
plain-plain (b ∷ bs) = ap (λ (xs : List ℕ). b ∷ xs) (plain-plain bs)

pub plain-quoted : (bs : List ℕ) → plain_of (map Quoted bs) ≡ []
plain-quoted [] = refl
plain-quoted (b ∷ bs) = plain-quoted bs

plain-append : (xs ys : List Atom) → plain_of (xs ++ ys) ≡ plain_of xs ++ plain_of ys
plain-append [] ys = refl
plain-append (Plain b ∷ xs) ys = ap (λ (zs : List ℕ). b ∷ zs) (plain-append xs ys)
plain-append (Quoted b ∷ xs) ys = plain-append xs ys
plain-append (Mark ∷ xs) ys = plain-append xs ys
plain-append (Value n q ∷ xs) ys = plain-append xs ys
plain-append (Status q ∷ xs) ys = plain-append xs ys

pub plain-on : (all left part rest : List Atom) (bytes more : List ℕ) → left ≡ part ++ rest → more ≡ plain_of part →
    bytes ++ plain_of left ≡ plain_of all → (bytes ++ more) ++ plain_of rest ≡ plain_of all
plain-on all left part rest bytes more cut is so_far =
    append_assoc bytes more (plain_of rest)
    ∙ ap (λ (xs : List ℕ). bytes ++ (xs ++ plain_of rest)) is
    ∙ ap (λ (xs : List ℕ). bytes ++ xs) (sym (plain-append part rest) ∙ ap plain_of (sym cut)) ∙ so_far
