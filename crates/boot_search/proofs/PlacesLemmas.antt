-- The places of stored environments, and what one more changes.
use Rattle.std.proofs.Common.{◌≡◌, ℕ, List, [], ◌∷◌, ◌++◌, length, Bool, true, false, cond, refl, sym, ap, ◌∙◌, subst, ⊎_elim, Option, None, Some, Vec, Global, inl, inr, arith, zero, suc, ◌<◌, Result, Ok, Err}
use Rattle.std.specs.Prelude.{Contains, slice_get, IfOk, OnOk}
use Rattle.std.specs.declared.alloc.AllocError.{AllocError}
use Rattle.std.specs.Ordering.{is_eq, nat_cmp}
use Rattle.std.specs.Cmp.Lexicographic.{slice_cmp}
use Rattle.std.specs.Str.{bytes_eq}
use Rattle.std.specs.BTreeMap as tree
use Rattle.std.proofs.lemmas.Bool.{false≢true}
use Rattle.std.proofs.lemmas.Option.{none-some}
use Rattle.std.proofs.lemmas.Map.Text.{is_eq-slice_cmp}
use Rattle.std.proofs.lemmas.List.Elements.{Contains-push_cases}
use lib.Pointwise.{bytes_decides}
use Rattle.boot_search.specs.Places.{AreAt, IsAt, bytes_order}
use Rattle.boot_search.specs.Reports.{AreSteps, IsPlaced, Meaning}
use Rattle.boot_search.proofs.Lists.{get_front, get_last}

-- another environment is where it was
kept_at : (texts : List (List ℕ)) (bytes asked : List ℕ) → (bytes ≡ asked → ⊥) → (o : Option ℕ) → IsAt texts asked o → IsAt (texts ++ bytes ∷ []) asked o
kept_at texts bytes asked other None is = λ has. ⊎_elim is other (Contains-push_cases texts bytes asked has)
kept_at texts bytes asked other (Some place) is = get_front texts (bytes ∷ []) place asked is

by_same : (texts : List (List ℕ)) (bytes asked : List ℕ) (o : Option ℕ) → IsAt texts asked o → (same : Bool) → (same ≡ true → bytes ≡ asked) → (bytes ≡ asked → same ≡ true)
    → IsAt (texts ++ bytes ∷ []) asked (cond same (Some (length texts)) o)
by_same texts bytes asked o is true to from = get_last texts bytes ∙ ap Some (to refl)
by_same texts bytes asked o is false to from = kept_at texts bytes asked (λ e. false≢true (from e)) o is

pub one_more_at : (texts : List (List ℕ)) (bytes : List ℕ) (old new : tree.BTreeMap (Vec ℕ Global) ℕ) (key : Vec ℕ Global) (place : ℕ) → key.items ≡ bytes → place ≡ length texts
    → tree.Updates bytes_order old new key (Some place) → AreAt texts old → AreAt (texts ++ bytes ∷ []) new
one_more_at texts bytes old new key place same here updates are q =
    let decides = bytes_decides key.items q.items in
    let equal : tree.is_at (bytes_order key) q ≡ bytes_eq key.items q.items = is_eq-slice_cmp key.items q.items in
    let found = by_same texts key.items q.items (tree.get bytes_order old q) (are q) (tree.is_at (bytes_order key) q) (λ e. decides.0 (sym equal ∙ e)) (λ e. equal ∙ decides.1 e) in
    let at_key : IsAt (texts ++ key.items ∷ []) q.items (cond (tree.is_at (bytes_order key) q) (Some place) (tree.get bytes_order old q)) =
    subst (λ (n : ℕ). IsAt (texts ++ key.items ∷ []) q.items (cond (tree.is_at (bytes_order key) q) (Some n) (tree.get bytes_order old q))) (sym here) found in
    subst (λ (b : List ℕ). IsAt (texts ++ b ∷ []) q.items (tree.get bytes_order new q)) same
    (subst (λ (o : Option ℕ). IsAt (texts ++ key.items ∷ []) q.items o) (sym (updates.0 q)) at_key)

-- a place that is looked up
pub known_place : (texts : List (List ℕ)) (reached : List (Option ℕ)) (way : ℕ) (bytes : List ℕ) (to : ℕ) → slice_get texts to ≡ Some bytes → IsPlaced texts reached way bytes to texts reached
known_place texts reached way bytes to is = record { there = is; old_or_new = inl (refl, refl) }

-- or behind the others
pub new_place : (texts new_texts : List (List ℕ)) (reached new_reached : List (Option ℕ)) (way : ℕ) (bytes : List ℕ) (to : ℕ) → (Contains texts bytes → ⊥) → to ≡ length texts
    → new_texts ≡ texts ++ bytes ∷ [] → new_reached ≡ reached ++ Some way ∷ [] → IsPlaced texts reached way bytes to new_texts new_reached
new_place texts new_texts reached new_reached way bytes to fresh here is by = record {
  there = ap (λ (t : List (List ℕ)). slice_get t to) is ∙ ap (λ (k : ℕ). slice_get (texts ++ bytes ∷ []) k) here ∙ get_last texts bytes;
  old_or_new = inr (here, is, by, fresh);
}

pub placed_if : (r : Result ℕ AllocError) (texts new_texts : List (List ℕ)) (reached new_reached : List (Option ℕ)) (way : ℕ) (bytes : List ℕ) → (Contains texts bytes → ⊥)
    → IfOk r (λ to. to ≡ length texts) → OnOk r (new_texts ≡ texts ++ bytes ∷ []) → OnOk r (new_reached ≡ reached ++ Some way ∷ [])
    → IfOk r (λ to. IsPlaced texts reached way bytes to new_texts new_reached)
placed_if (Ok to) texts new_texts reached new_reached way bytes fresh here is by = new_place texts new_texts reached new_reached way bytes to fresh here is by
placed_if (Err e) texts new_texts reached new_reached way bytes fresh here is by = tt

-- the first stored environment
once_alone : (start : List ℕ) (i k : ℕ) (state : List ℕ) → slice_get (start ∷ []) i ≡ Some state → slice_get (start ∷ []) k ≡ Some state → i ≡ k
once_alone start zero zero state first second = refl
once_alone start zero (suc k) state first second = absurd (none-some state second)
once_alone start (suc i) k state first second = absurd (none-some state first)

alone : (runs : Meaning) (start : List ℕ) → AreSteps runs (start ∷ []) (None ∷ []) []
alone runs start = record {
  lengths = refl;
  once = once_alone start;
  each = λ k d l. absurd (omega (arith, l));
  behind = λ i more less. absurd (omega (arith, more, less));
}

pub first_steps : (runs : Meaning) (start : List ℕ) (texts : List (List ℕ)) (reached : List (Option ℕ)) → texts ≡ start ∷ [] → reached ≡ None ∷ [] → AreSteps runs texts reached []
first_steps runs start texts reached is by =
    subst (λ (t : List (List ℕ)). AreSteps runs t reached []) (sym is) (subst (λ (r : List (Option ℕ)). AreSteps runs (start ∷ []) r []) (sym by) (alone runs start))
