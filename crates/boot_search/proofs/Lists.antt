-- Lists: what is in them, and what they begin with.
use Rattle.std.proofs.Common.{◌≡◌, ◌⊎◌, ℕ, zero, suc, ◌+◌, ◌<◌, List, [], ◌∷◌, ◌++◌, length, Some, refl, ap, sym, ◌∙◌, subst, inl, inr, arith, append_assoc, map}
use Rattle.std.specs.Prelude.{All, Contains, slice_get}
use Rattle.std.proofs.lemmas.Bool.{cases_lt}
use Rattle.std.proofs.lemmas.List.{get_or_append_left, length-append, map-append}
use Rattle.std.proofs.lemmas.List.Elements.{All-contains, Contains-push}
use Rattle.std.proofs.lemmas.Option.{same_Some, none-some, slice_get_within, slice_get-get_or, get_or_from_slice_get}

pub nothing_in : {X : Type 0} (x : X) → Contains [] x → ⊥
nothing_in x c = absurd (omega (arith, c.1))

pub All-first : {X : Type 0} (P : X → Type 0) (xs ys : List X) → All P (xs ++ ys) → All P xs
All-first P xs ys h k d l =
    let long : k < length (xs ++ ys) = simp length-append (omega arith) in
    subst P (get_or_append_left xs ys d k l) (h k d long)

pub All-last : {X : Type 0} (P : X → Type 0) (xs : List X) (x : X) → All P (xs ++ x ∷ []) → P x
All-last P xs x h = All-contains P (xs ++ x ∷ []) x h (Contains-push xs x)

pub get_front : {X : Type 0} (xs ys : List X) (i : ℕ) (x : X) → slice_get xs i ≡ Some x → slice_get (xs ++ ys) i ≡ Some x
get_front [] ys i x e = absurd (none-some x e)
get_front (z ∷ xs) ys zero x e = e
get_front (z ∷ xs) ys (suc i) x e = get_front xs ys i x e

pub get_back : {X : Type 0} (xs ys : List X) (i : ℕ) (x : X) → i < length xs → slice_get (xs ++ ys) i ≡ Some x → slice_get xs i ≡ Some x
get_back [] ys i x l e = absurd (omega (arith, l))
get_back (z ∷ xs) ys zero x l e = e
get_back (z ∷ xs) ys (suc i) x l e = get_back xs ys i x (omega arith) e

pub get_last : {X : Type 0} (xs : List X) (x : X) → slice_get (xs ++ x ∷ []) (length xs) ≡ Some x
get_last [] x = refl
get_last (z ∷ xs) x = get_last xs x

pub get_seam : {X : Type 0} (xs : List X) (x : X) (ys : List X) → slice_get (xs ++ x ∷ ys) (length xs) ≡ Some x
get_seam [] x ys = refl
get_seam (z ∷ xs) x ys = get_seam xs x ys

pub get_at : {X : Type 0} (xs : List X) (i : ℕ) → i < length xs → (x : X) × (slice_get xs i ≡ Some x)
get_at [] i l = absurd (omega (arith, l))
get_at (z ∷ xs) zero l = (z, refl)
get_at (z ∷ xs) (suc i) l = get_at xs i (omega arith)

pub Contains_from_get : {X : Type 0} (xs : List X) (i : ℕ) (x : X) → slice_get xs i ≡ Some x → Contains xs x
Contains_from_get xs i x e = (i, slice_get_within xs i x e, get_or_from_slice_get xs i x x e)

pub get_from_Contains : {X : Type 0} (xs : List X) (x : X) → Contains xs x → (i : ℕ) × (slice_get xs i ≡ Some x)
get_from_Contains xs x c = (c.0, slice_get-get_or xs c.0 x c.1 ∙ ap Some c.2)

-- an element of a list with one more behind it is one of before or the last one
pub get_cases : {X : Type 0} (xs : List X) (y : X) (i : ℕ) (x : X) → slice_get (xs ++ y ∷ []) i ≡ Some x → (slice_get xs i ≡ Some x) ⊎ ((i ≡ length xs) × (y ≡ x))
get_cases xs y i x e =
    let within : i < length (xs ++ y ∷ []) = slice_get_within (xs ++ y ∷ []) i x e in
    let long : length (xs ++ y ∷ []) ≡ length xs + 1 = length-append xs (y ∷ []) in
    elim (cases_lt i (length xs)) [
      | inl less ↦ inl (get_back xs (y ∷ []) i x less e)
      | inr more ↦
          let here : i ≡ length xs = omega arith in
          inr (here, same_Some y x (sym (get_last xs y) ∙ ap (λ (k : ℕ). slice_get (xs ++ y ∷ []) k) (sym here) ∙ e))
    ]

-- the images of a list with one more element behind it
pub map_push : {A B : Type 0} (f : A → B) (old : List A) (x : A) (new : List A) → new ≡ old ++ x ∷ [] → map f new ≡ map f old ++ f x ∷ []
map_push f old x new e = ap (map f) e ∙ map-append f old (x ∷ [])

-- what is appended in three steps
pub three_parts : {X : Type 0} (a x y z b c d : List X) → b ≡ a ++ x → c ≡ b ++ y → d ≡ c ++ z → d ≡ a ++ (x ++ y ++ z)
three_parts a x y z b c d first second third =
    third ∙ ap (λ t. t ++ z) (second ∙ ap (λ t. t ++ y) first ∙ append_assoc a x y) ∙ append_assoc a (x ++ y) z
