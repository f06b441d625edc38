-- Words of which all is known, part by part.
use Rattle.std.proofs.Common.{◌≡◌, ℕ, List, [], ◌∷◌, ◌++◌, map, Option, Some, None, refl, sym, ap, ◌∙◌, append_assoc, append-nil}
use Rattle.std.specs.Prelude.{option_map}
use Rattle.hush_words.specs.Words.{Atom}
use Rattle.hush_words.specs.Words.Atom.{Plain, Quoted, Mark, Value, Status}
use Rattle.fw_check.specs.Knowing.{Known, constant, joined, text_of}

joined-nothing : (o : Option (List ℕ)) → joined (Some []) o ≡ o
joined-nothing None = refl
joined-nothing (Some xs) = refl

joined-joined : (a b c : Option (List ℕ)) → joined a (joined b c) ≡ joined (joined a b) c
joined-joined None b c = refl
joined-joined (Some xs) None c = refl
joined-joined (Some xs) (Some ys) None = refl
joined-joined (Some xs) (Some ys) (Some zs) = ap Some (sym (append_assoc xs ys zs))

joined-byte : (b : ℕ) (o r : Option (List ℕ)) → option_map (λ bs. b ∷ bs) (joined o r) ≡ joined (option_map (λ bs. b ∷ bs) o) r
joined-byte b None r = refl
joined-byte b (Some xs) None = refl
joined-byte b (Some xs) (Some ys) = refl

text-append : (k : Option Known) (xs ys : List Atom) → text_of k (xs ++ ys) ≡ joined (text_of k xs) (text_of k ys)
text-append k [] ys = sym (joined-nothing (text_of k ys))
text-append k (Plain b ∷ xs) ys = ap (option_map (λ bs. b ∷ bs)) (text-append k xs ys) ∙ joined-byte b (text_of k xs) (text_of k ys)
text-append k (Quoted b ∷ xs) ys = ap (option_map (λ bs. b ∷ bs)) (text-append k xs ys) ∙ joined-byte b (text_of k xs) (text_of k ys)
text-append k (Mark ∷ xs) ys = text-append k xs ys
text-append k (Value n q ∷ xs) ys = ap (joined (constant k n)) (text-append k xs ys) ∙ joined-joined (constant k n) (text_of k xs) (text_of k ys)
text-append k (Status q ∷ xs) ys = refl

pub plain-text : (k : Option Known) (bs : List ℕ) → text_of k (map Plain bs) ≡ Some bs
plain-text k [] = refl
plain-text k (b ∷ bs) = ap (option_map (λ xs. b ∷ xs)) (plain-text k bs)

pub quoted-text : (k : Option Known) (bs : List ℕ) → text_of k (map Quoted bs) ≡ Some bs
quoted-text k [] = refl
quoted-text k (b ∷ bs) = ap (option_map (λ xs. b ∷ xs)) (quoted-text k bs)

pub value-text : (o : Option (List ℕ)) → joined o (Some []) ≡ o
value-text None = refl
value-text (Some xs) = ap Some (append-nil xs)

-- a part with this text was read
pub text-on : (k : Option Known) (left part rest : List Atom) (bytes more : List ℕ) (all : Option (List ℕ)) → left ≡ part ++ rest → Some more ≡ text_of k part →
    joined (Some bytes) (text_of k left) ≡ all → joined (Some (bytes ++ more)) (text_of k rest) ≡ all
text-on k left part rest bytes more all cut is so_far =
    sym (joined-joined (Some bytes) (Some more) (text_of k rest))
    ∙ ap (λ (o : Option (List ℕ)). joined (Some bytes) (joined o (text_of k rest))) is
    ∙ ap (joined (Some bytes)) (sym (text-append k part rest) ∙ ap (text_of k) (sym cut)) ∙ so_far

-- and one of which something isn't known
pub text-stops : (k : Option Known) (left part rest : List Atom) (bytes : List ℕ) (all : Option (List ℕ)) → left ≡ part ++ rest → None ≡ text_of k part →
    joined (Some bytes) (text_of k left) ≡ all → None ≡ all
text-stops k left part rest bytes all cut none so_far =
    ap (λ (o : Option (List ℕ)). joined (Some bytes) (joined o (text_of k rest))) none
    ∙ ap (joined (Some bytes)) (sym (text-append k part rest) ∙ ap (text_of k) (sym cut)) ∙ so_far
