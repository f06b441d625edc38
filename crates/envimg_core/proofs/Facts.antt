-- Small facts on truth values, orders and names, for the lemmas of this crate and of those above it.
use Rattle.std.proofs.Common.{◌≡◌, ℕ, Bool, true, false, cond, not, ◌&&◌, ◌||◌, T, List, [], ◌∷◌, Option, Some, None, is_some, option_map, Result, Ok, Err, OnErr, subst, sym, ap, ◌∙◌, refl, is_eq, is_lt, Ordering, Less, Equal, Greater}
use Rattle.std.proofs.lemmas.Bool.{false≢true}
use Rattle.std.specs.FinMap.{slice_cmp-IsAntisymmetric, nat_cmp-IsAntisymmetric}
use Rattle.std.specs.FinMap.Entries.{find, below_all}
use Rattle.envimg_core.specs.Environment.{bytes_cmp}

-- both tests hold
pub and_left : (a b : Bool) → T (a && b) → T a
and_left true b p = tt
and_left false b p = p

pub and_right : (a b : Bool) → T (a && b) → T b
and_right true b p = p
and_right false b p = absurd p

pub and_both : (a b : Bool) → T a → T b → T (a && b)
and_both true b p q = q
and_both false b p q = p

pub left_true : (a b : Bool) → (a && b) ≡ true → a ≡ true
left_true true b e = refl
left_true false b e = e

pub right_true : (a b : Bool) → (a && b) ≡ true → b ≡ true
right_true true b e = e
right_true false b e = absurd (false≢true e)

-- neither test holds
pub not_or : (a b : Bool) → not (a || b) ≡ true → (a ≡ false) × (b ≡ false)
not_or false false h = (refl, refl)
not_or false true h = absurd (false≢true h)
not_or true b h = absurd (false≢true h)

pub not_true : (b : Bool) → (b ≡ true → ⊥) → b ≡ false
not_true true h = absurd (h refl)
not_true false h = refl

pub turned_cond : {A : Type 0} (b : Bool) (x y : A) → cond (not b) x y ≡ cond b y x
turned_cond true x y = refl
turned_cond false x y = refl

pub is_some-map : {A B : Type 0} (f : A → B) (o : Option A) → is_some (option_map f o) ≡ is_some o
is_some-map f None = refl
is_some-map f (Some x) = refl

pub on_err_any : {A E : Type 0} (r : Result A E) (P : Type 0) → P → OnErr r P
on_err_any (Ok a) P h = tt
on_err_any (Err e) P h = h

-- an order is less
pub is_less : (o : Ordering) → T (is_lt o) → o ≡ Less
is_less Less p = refl
is_less Equal p = absurd p
is_less Greater p = absurd p

pub less_is : (o : Ordering) → o ≡ Less → T (is_lt o)
less_is o e = subst (λ r. T (is_lt r)) (sym e) tt

-- names that compare as equal are equal
pub same_name : (q n : List ℕ) → bytes_cmp q n ≡ Equal → q ≡ n
same_name q n e = slice_cmp-IsAntisymmetric nat_cmp-IsAntisymmetric q n e

-- a name that is below all of a list is not in it
pub find_below : {X : Type 0} (q : List ℕ) (es : List (List ℕ × X)) → T (below_all bytes_cmp q es) → find bytes_cmp q es ≡ None
find_below q [] h = refl
find_below q (e ∷ es) h = ap (λ o. cond (is_eq o) (Some e.1) (find bytes_cmp q es)) (is_less _ (and_left _ _ h)) ∙ find_below q es (and_right _ _ h)
