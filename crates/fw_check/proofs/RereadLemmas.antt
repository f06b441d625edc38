-- Names in words whose values are read anew.
use Rattle.std.proofs.Common.{◌≡◌, ℕ, Bool, true, false, not, ◌&&◌, List, [], ◌∷◌, ◌++◌, map, Option, refl, sym, ap, ◌∙◌, append_assoc, if◌then◌else◌}
use Rattle.hush_words.specs.Words.{Atom}
use Rattle.hush_words.specs.Words.Atom.{Plain, Quoted, Mark, Value, Status}
use Rattle.fw_check.specs.Knowing.{Known, is_reread, reread_names}

module _ (known : Option Known) (cut : Bool) where
  pub plain-reread : (bs : List ℕ) → reread_names known cut (map Plain bs) ≡ []
  plain-reread [] = refl
  plain-reread (b ∷ bs) = plain-reread bs

  pub quoted-reread : (bs : List ℕ) → reread_names known cut (map Quoted bs) ≡ []
  quoted-reread [] = refl
  quoted-reread (b ∷ bs) = quoted-reread bs

  append-if : (b : Bool) (name : List ℕ) (xs ys : List (List ℕ)) → (if b then name ∷ (xs ++ ys) else xs ++ ys) ≡ (if b then name ∷ xs else xs) ++ ys
  append-if true name xs ys = refl
  append-if false name xs ys = refl

  reread-append : (xs ys : List Atom) → reread_names known cut (xs ++ ys) ≡ reread_names known cut xs ++ reread_names known cut ys
  reread-append [] ys = refl
  reread-append (Plain b ∷ xs) ys = reread-append xs ys
  reread-append (Quoted b ∷ xs) ys = reread-append xs ys
  reread-append (Mark ∷ xs) ys = reread-append xs ys
  reread-append (Value n q ∷ xs) ys =
      ap (λ (ns : List (List ℕ)). if is_reread known (cut && not q) n then n ∷ ns else ns) (reread-append xs ys)
      ∙ append-if (is_reread known (cut && not q) n) n (reread_names known cut xs) (reread_names known cut ys)
  reread-append (Status q ∷ xs) ys = reread-append xs ys

  pub reread-on : (all left part rest : List Atom) (names more : List (List ℕ)) → left ≡ part ++ rest → more ≡ names ++ reread_names known cut part →
      names ++ reread_names known cut left ≡ reread_names known cut all → more ++ reread_names known cut rest ≡ reread_names known cut all
  reread-on all left part rest names more cuts is so_far =
      ap (λ (ns : List (List ℕ)). ns ++ reread_names known cut rest) is
      ∙ append_assoc names (reread_names known cut part) (reread_names known cut rest)
      ∙ ap (λ (ns : List (List ℕ)). names ++ ns) (sym (reread-append part rest) ∙ ap (reread_names known cut) (sym cuts)) ∙ so_far
