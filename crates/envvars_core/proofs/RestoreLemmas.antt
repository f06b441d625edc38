-- What putting kept values back gives.
use Rattle.std.proofs.Common.{◌≡◌, ◌≢◌, ◌+◌, ◌*◌, ◌-◌, ◌<◌, ℕ, Bool, true, false, cond, not, ◌&&◌, ◌||◌, T, List, [], ◌∷◌, fold, IsTrue, Option, Some, None, IfSome, IsSome, is_some, unwrap_or, refl, sym, ap, subst, ◌∙◌, arith}
use Rattle.std.specs.Prelude.{is_none, ◌/◌, ◌%◌}
use Rattle.std.proofs.Math.Nat.{mod-lt, mod-eq_of_lt, mod-add-div, mod-add-mod, add-mod-mod, add-mod_right, add-mul-mod_self_left}
use Rattle.std.specs.List.{list_all}
use Rattle.std.specs.Ordering.{is_eq, eq_by_cmp}
use Rattle.std.specs.declared.cmp.Ordering.{Ordering}
use Rattle.std.specs.declared.cmp.Ordering.TheVariants.{Less, Equal, Greater}
use Rattle.std.specs.Cmp.Lexicographic.{nat_list_cmp_total}
use Rattle.std.specs.FinMap as env
use Rattle.std.specs.FinMap.Entries.{find, below_all, is_sorted}
use Rattle.std.proofs.lemmas.List.{nil_from_length}
use Rattle.std.proofs.lemmas.Bool.{false≢true}
use Rattle.std.proofs.lemmas.Slice.Eq.{bytes_eq-Decides}
use Rattle.envimg_core.specs.Environment.{Environment, bytes_cmp, used}
use Rattle.envimg_core.specs.Pieces.{Entry, with_value, after_entry}
use Rattle.envimg_core.proofs.Facts.{and_left, and_right, left_true, right_true, same_name, find_below}
use Rattle.envvars_core.specs.Attributes.{attributes, flags_name}
use Rattle.envvars_core.specs.Variables.{size_of}
use Rattle.envvars_core.proofs.SizeLemmas.{used-remove, used-with_value}
use Rattle.envvars_core.specs.Refusals.{given, after}
use Rattle.std.specs.Option.{option_or}
use Rattle.envvars_core.specs.Laws.{and_written, written_kept, is_changed}
use Rattle.envvars_core.specs.Olds.{OldValues, same_value, kept, kept_by, restored, has_place, goes_in_place}
use Rattle.envvars_core.specs.Steps.{HavePlaces}
use Rattle.envvars_core.proofs.KeptLemmas.{attributes_by}

-- a value set or taken away
pub get-with_value : (m : Environment) (n : List ℕ) (v : Option (List ℕ)) (q : List ℕ) → env.get (with_value m n v) q ≡ cond (eq_by_cmp bytes_cmp q n) v (env.get m q)
get-with_value m n None q = env.get-remove nat_list_cmp_total m n q
get-with_value m n (Some v) q = env.get-insert nat_list_cmp_total m n v q

-- each name in turn: what it is given counts, and else what was there
pub get-fold : (es : List Entry) (m : Environment) (q : List ℕ) → T (is_sorted bytes_cmp es) → env.get (fold after_entry m es) q ≡ unwrap_or (find bytes_cmp q es) (env.get m q)
get-fold [] m q h = refl
get-fold (e ∷ es) m q h =
    get-fold es (after_entry m e) q (and_right _ _ h)
    ∙ ap (unwrap_or (find bytes_cmp q es)) (get-with_value m e.0 e.1 q)
    ∙ elim (bytes_cmp q e.0) as (λ o. bytes_cmp q e.0 ≡ o → unwrap_or (find bytes_cmp q es) (cond (is_eq o) e.1 (env.get m q)) ≡ unwrap_or (cond (is_eq o) (Some e.1) (find bytes_cmp q es)) (env.get m q)) [
      | Less ↦ λ p. refl
      | Equal ↦ λ p. ap (λ f. unwrap_or f e.1) (find_below q es (subst (λ n. T (below_all bytes_cmp n es)) (sym (same_name q e.0 p)) (and_left _ _ h)))
      | Greater ↦ λ p. refl
    ] refl

-- what is kept decides, and every other name stays
pub get-restored : (m : Environment) (olds : OldValues) (q : List ℕ) → env.get (restored m olds) q ≡ unwrap_or (env.get olds q) (env.get m q)
unfolding restored
get-restored m olds q = get-fold (env.entries olds) m q (env.entries_sorted olds) ∙ ap (λ f. unwrap_or f (env.get m q)) (sym (env.get-entries olds q))

pub entries-none : env.entries {X = Option (List ℕ)} {R = bytes_cmp} env.empty ≡ []
entries-none = nil_from_length _ (sym (env.len-entries {R = bytes_cmp} env.empty) ∙ env.len-empty bytes_cmp (Option (List ℕ)))

pub restored-empty : (m : Environment) → restored m env.empty ≡ m
unfolding restored
restored-empty m = ap (fold after_entry m) entries-none

pub same_env : (m n : Environment) → ((q : List ℕ) → env.get m q ≡ env.get n q) → m ≡ n
same_env m n h = env.same_map nat_list_cmp_total same_name m n h

write_one : (m : Environment) (olds : OldValues) (n : List ℕ) (v : Option (List ℕ)) (o : Option (Option (List ℕ))) (q : List ℕ) → env.get olds n ≡ o → unwrap_or (env.get (cond (is_some o) olds (env.insert olds n (env.get m n))) q) (env.get (with_value m n v) q) ≡ unwrap_or (env.get olds q) (env.get m q)
write_one m olds n v (Some old) q is =
    ap (unwrap_or (env.get olds q)) (get-with_value m n v q)
    ∙ elim (bytes_cmp q n) as (λ r. bytes_cmp q n ≡ r → unwrap_or (env.get olds q) (cond (is_eq r) v (env.get m q)) ≡ unwrap_or (env.get olds q) (env.get m q)) [
      | Less ↦ λ p. refl
      | Equal ↦ λ p. let there : env.get olds q ≡ Some old = ap (env.get olds) (same_name q n p) ∙ is in ap (λ f. unwrap_or f v) there ∙ ap (λ f. unwrap_or f (env.get m q)) (sym there)
      | Greater ↦ λ p. refl
    ] refl
write_one m olds n v None q is =
    (λ i. unwrap_or (env.get-insert nat_list_cmp_total olds n (env.get m n) q i) (get-with_value m n v q i))
    ∙ elim (bytes_cmp q n) as (λ r. bytes_cmp q n ≡ r → unwrap_or (cond (is_eq r) (Some (env.get m n)) (env.get olds q)) (cond (is_eq r) v (env.get m q)) ≡ unwrap_or (env.get olds q) (env.get m q)) [
      | Less ↦ λ p. refl
      | Equal ↦ λ p. ap (env.get m) (sym (same_name q n p)) ∙ ap (λ f. unwrap_or f (env.get m q)) (sym (ap (env.get olds) (same_name q n p) ∙ is))
      | Greater ↦ λ p. refl
    ] refl

-- a change whose old value is kept leaves what putting back gives
pub restored-kept : (m : Environment) (olds : OldValues) (n : List ℕ) (v : Option (List ℕ)) → restored (with_value m n v) (kept olds n (env.get m n)) ≡ restored m olds
unfolding kept
restored-kept m olds n v = same_env _ _ (λ q. get-restored _ _ q ∙ write_one m olds n v (env.get olds n) q refl ∙ sym (get-restored m olds q))

-- the same value again changes nothing
from_same : (a b : Option (List ℕ)) → same_value a b ≡ true → a ≡ b
from_same None None e = refl
from_same None (Some v) e = absurd (false≢true e)
from_same (Some v) None e = absurd (false≢true e)
from_same (Some v) (Some w) e = ap Some ((bytes_eq-Decides v w).0 e)

pub with_same : (m : Environment) (n : List ℕ) (v : Option (List ℕ)) → same_value (env.get m n) v ≡ true → with_value m n v ≡ m
with_same m n v e = same_env _ _ (λ q.
    get-with_value m n v q
    ∙ elim (bytes_cmp q n) as (λ r. bytes_cmp q n ≡ r → cond (is_eq r) v (env.get m q) ≡ env.get m q) [
      | Less ↦ λ p. refl
      | Equal ↦ λ p. sym (from_same (env.get m n) v e) ∙ ap (env.get m) (sym (same_name q n p))
      | Greater ↦ λ p. refl
    ] refl)

-- an accepted write leaves what putting back gives
pub restored-written : (m : Environment) (olds : OldValues) (n : List ℕ) (new : Option (List ℕ)) → restored (after m n new) (kept_by m n new olds) ≡ restored m olds
unfolding kept_by
restored-written m olds n new =
    elim (same_value (env.get m n) (given new)) as (λ b. same_value (env.get m n) (given new) ≡ b → restored (after m n new) (cond b olds (kept olds n (env.get m n))) ≡ restored m olds) [
      | true ↦ λ e. ap (λ x. restored x olds) (with_same m n (given new) e)
      | false ↦ λ e. restored-kept m olds n (given new)
    ] refl

-- after a list of accepted writes too
restored_all : (ws : List Entry) (s : Environment × OldValues) → restored (fold and_written s ws).0 (fold and_written s ws).1 ≡ restored s.0 s.1
restored_all [] s = refl
restored_all (w ∷ ws) s = restored_all ws (and_written s w) ∙ restored-written s.0 s.1 w.0 w.1

pub writes-restored : (m : Environment) (ws : List Entry) → restored (written_kept m ws).0 (written_kept m ws).1 ≡ m
writes-restored m ws = restored_all ws (m, env.empty) ∙ restored-empty m

-- the first value of a name that is kept stays
or_none : {A : Type 0} (o : Option A) → option_or o None ≡ o
or_none None = refl
or_none (Some x) = refl

or_some : {A : Type 0} (o : Option A) (a : A) (p : Option A) → option_or (option_or o (Some a)) p ≡ option_or o (Some a)
or_some None a p = refl
or_some (Some x) a p = refl

get_kept : (olds : OldValues) (n : List ℕ) (old : Option (List ℕ)) (q : List ℕ) (o : Option (Option (List ℕ))) → env.get olds n ≡ o → env.get (cond (is_some o) olds (env.insert olds n old)) q ≡ option_or (env.get olds q) (cond (eq_by_cmp bytes_cmp q n) (Some old) None)
get_kept olds n old q (Some x) is =
    elim (bytes_cmp q n) as (λ r. bytes_cmp q n ≡ r → env.get olds q ≡ option_or (env.get olds q) (cond (is_eq r) (Some old) None)) [
      | Less ↦ λ p. sym (or_none (env.get olds q))
      | Equal ↦ λ p. let there : env.get olds q ≡ Some x = ap (env.get olds) (same_name q n p) ∙ is in there ∙ sym (ap (λ g. option_or g (Some old)) there)
      | Greater ↦ λ p. sym (or_none (env.get olds q))
    ] refl
get_kept olds n old q None is =
    env.get-insert nat_list_cmp_total olds n old q
    ∙ elim (bytes_cmp q n) as (λ r. bytes_cmp q n ≡ r → cond (is_eq r) (Some old) (env.get olds q) ≡ option_or (env.get olds q) (cond (is_eq r) (Some old) None)) [
      | Less ↦ λ p. sym (or_none (env.get olds q))
      | Equal ↦ λ p. sym (ap (λ g. option_or g (Some old)) (ap (env.get olds) (same_name q n p) ∙ is))
      | Greater ↦ λ p. sym (or_none (env.get olds q))
    ] refl

-- one write before others, some of which change the name or none does
kept_step : (m : Environment) (olds : OldValues) (n : List ℕ) (new : Option (List ℕ)) (q : List ℕ) (later : Bool) → option_or (env.get (kept_by m n new olds) q) (cond later (Some (env.get (after m n new) q)) None) ≡ option_or (env.get olds q) (cond ((eq_by_cmp bytes_cmp q n && not (same_value (env.get m n) (given new))) || later) (Some (env.get m q)) None)
unfolding kept_by kept
kept_step m olds n new q later =
    elim (same_value (env.get m n) (given new)) as (λ b. same_value (env.get m n) (given new) ≡ b → option_or (env.get (cond b olds (cond (env.contains_key olds n) olds (env.insert olds n (env.get m n)))) q) (cond later (Some (env.get (after m n new) q)) None) ≡ option_or (env.get olds q) (cond ((eq_by_cmp bytes_cmp q n && not b) || later) (Some (env.get m q)) None)) [
      | true ↦ λ e.
          ap (λ x. option_or (env.get olds q) (cond later (Some (env.get x q)) None)) (with_same m n (given new) e)
          ∙ elim (eq_by_cmp bytes_cmp q n) as (λ t. option_or (env.get olds q) (cond later (Some (env.get m q)) None) ≡ option_or (env.get olds q) (cond ((t && false) || later) (Some (env.get m q)) None)) [ true ↦ refl | false ↦ refl ]
      | false ↦ λ e.
          (λ i. option_or (get_kept olds n (env.get m n) q (env.get olds n) refl i) (cond later (Some (get-with_value m n (given new) q i)) None))
          ∙ elim (bytes_cmp q n) as (λ r. bytes_cmp q n ≡ r → option_or (option_or (env.get olds q) (cond (is_eq r) (Some (env.get m n)) None)) (cond later (Some (cond (is_eq r) (given new) (env.get m q))) None) ≡ option_or (env.get olds q) (cond ((is_eq r && true) || later) (Some (env.get m q)) None)) [
            | Less ↦ λ p. ap (λ g. option_or g (cond later (Some (env.get m q)) None)) (or_none (env.get olds q))
            | Equal ↦ λ p. or_some (env.get olds q) (env.get m n) (cond later (Some (given new)) None) ∙ ap (λ x. option_or (env.get olds q) (Some (env.get m x))) (sym (same_name q n p))
            | Greater ↦ λ p. ap (λ g. option_or g (cond later (Some (env.get m q)) None)) (or_none (env.get olds q))
          ] refl
    ] refl

kept_all : (ws : List Entry) (s : Environment × OldValues) (q : List ℕ) → env.get (fold and_written s ws).1 q ≡ option_or (env.get s.1 q) (cond (is_changed q s.0 ws) (Some (env.get s.0 q)) None)
kept_all [] s q = sym (or_none (env.get s.1 q))
kept_all (w ∷ ws) s q = kept_all ws (and_written s w) q ∙ kept_step s.0 s.1 w.0 w.1 q (is_changed q (after s.0 w.0 w.1) ws)

pub first-kept : (m : Environment) (ws : List Entry) (q : List ℕ) → env.get (written_kept m ws).1 q ≡ cond (is_changed q m ws) (Some (env.get m q)) None
first-kept m ws q = kept_all ws (m, env.empty) q ∙ ap (λ g. option_or g (cond (is_changed q m ws) (Some (env.get m q)) None)) (env.get-empty bytes_cmp q)

-- what was kept a moment ago is forgotten again
pub remove-insert : (olds : OldValues) (n : List ℕ) (v : Option (List ℕ)) → env.contains_key olds n ≡ false → env.remove (env.insert olds n v) n ≡ olds
remove-insert olds n v e = env.same_map nat_list_cmp_total same_name _ _ (λ q.
    env.get-remove nat_list_cmp_total _ n q
    ∙ ap (cond (eq_by_cmp bytes_cmp q n) None) (env.get-insert nat_list_cmp_total olds n v q)
    ∙ elim (bytes_cmp q n) as (λ r. bytes_cmp q n ≡ r → cond (is_eq r) None (cond (is_eq r) (Some v) (env.get olds q)) ≡ env.get olds q) [
      | Less ↦ λ p. refl
      | Equal ↦ λ p. sym (ap (env.get olds) (same_name q n p) ∙ absent (env.get olds n) e)
      | Greater ↦ λ p. refl
    ] refl)
  where
    absent : (o : Option (Option (List ℕ))) → is_some o ≡ false → o ≡ None
    absent None e = refl
    absent (Some x) e = absurd (false≢true (sym e))

pub kept_forgotten : (olds : OldValues) (n : List ℕ) (old : Option (List ℕ)) (added : Bool) → added ≡ not (env.contains_key olds n) → cond added (env.remove (kept olds n old) n) (kept olds n old) ≡ olds
unfolding kept
kept_forgotten olds n old added is =
    ap (λ b. cond b (env.remove (kept olds n old) n) (kept olds n old)) is
    ∙ elim (env.contains_key olds n) as (λ b. env.contains_key olds n ≡ b → cond (not b) (env.remove (cond b olds (env.insert olds n old)) n) (cond b olds (env.insert olds n old)) ≡ olds) [
      | true ↦ λ e. refl
      | false ↦ λ e. remove-insert olds n old e
    ] refl

pub places-from : (m : Environment) (es : List Entry) → list_all (has_place m) es ≡ true → HavePlaces m es
places-from m [] e q v is = absurd (false≢true (ap is_some is))
places-from m (e ∷ es) all q v is =
    elim (bytes_cmp q e.0) as (λ r. bytes_cmp q e.0 ≡ r → cond (is_eq r) (Some e.1) (find bytes_cmp q es) ≡ Some (Some v) → IsSome (env.get m q)) [
      | Less ↦ λ p f. places-from m es (right _ _ all) q v f
      | Equal ↦ λ p f. ap (λ n. is_some (env.get m n)) (same_name q e.0 p) ∙ there e.1 (cc) (left _ _ all)
      | Greater ↦ λ p f. places-from m es (right _ _ all) q v f
    ] refl is
  where
    left : (a b : Bool) → (a && b) ≡ true → a ≡ true
    left true b e = refl
    left false b e = e

    right : (a b : Bool) → (a && b) ≡ true → b ≡ true
    right true b e = e
    right false b e = absurd (false≢true e)

    there : (o : Option (List ℕ)) → o ≡ Some v → (is_none o || is_some (env.get m e.0)) ≡ true → IsSome (env.get m e.0)
    there None is f = absurd (false≢true (ap is_some is))
    there (Some x) is f = f

-- if `.flags` isn't kept, the attributes stay
pub attributes-restored : (m : Environment) (olds : OldValues) (n : List ℕ) → env.contains_key olds flags_name ≡ false → attributes m n ≡ attributes (restored m olds) n
attributes-restored m olds n e =
    sym (attributes_by m (env.get m flags_name) n refl)
    ∙ attributes_by (restored m olds) (env.get m flags_name) n (sym (get-restored m olds flags_name ∙ ap (λ f. unwrap_or f (env.get m flags_name)) (absent (env.get olds flags_name) e)))
  where
    absent : (o : Option (Option (List ℕ))) → is_some o ≡ false → o ≡ None
    absent None e = refl
    absent (Some x) e = absurd (false≢true (sym e))

pub kept-there : (olds : OldValues) (n : List ℕ) (o : Option (List ℕ)) → env.contains_key olds n ≡ true → olds ≡ kept olds n o
unfolding kept
kept-there olds n o e = ap (λ b. cond b olds (env.insert olds n o)) (sym e)

pub kept-new : (olds : OldValues) (n : List ℕ) (o : Option (List ℕ)) → env.contains_key olds n ≡ false → env.insert olds n o ≡ kept olds n o
unfolding kept
kept-new olds n o e = ap (λ b. cond b olds (env.insert olds n o)) (sym e)

pub kept_by-same : (m : Environment) (olds : OldValues) (n : List ℕ) (new : Option (List ℕ)) → same_value (env.get m n) (given new) ≡ true → olds ≡ kept_by m n new olds
unfolding kept_by
kept_by-same m olds n new e = ap (λ b. cond b olds (kept olds n (env.get m n))) (sym e)

pub kept_by-new : (m : Environment) (olds : OldValues) (n : List ℕ) (new : Option (List ℕ)) → same_value (env.get m n) (given new) ≡ false → kept olds n (env.get m n) ≡ kept_by m n new olds
unfolding kept_by
kept_by-new m olds n new e = ap (λ b. cond b olds (kept olds n (env.get m n))) (sym e)

not_false : (b : Bool) → not b ≡ true → b ≡ false
not_false true e = absurd (false≢true e)
not_false false e = refl

pub in_place-places : (m : Environment) (olds : OldValues) → IsTrue (goes_in_place m olds) → HavePlaces m (env.entries olds)
unfolding goes_in_place
in_place-places m olds h = places-from m (env.entries olds) (right_true (not (env.contains_key olds flags_name)) (list_all (has_place m) (env.entries olds)) h)

pub in_place-flags : (m : Environment) (olds : OldValues) → IsTrue (goes_in_place m olds) → env.contains_key olds flags_name ≡ false
unfolding goes_in_place
in_place-flags m olds h = not_false (env.contains_key olds flags_name) (left_true (not (env.contains_key olds flags_name)) (list_all (has_place m) (env.entries olds)) h)

-- what is counted modulo a number comes out as the number itself once that is below it
pub swapped_size : (w r a b size present kept : ℕ) → size ≡ (r + a) % w → present ≡ a % w → kept ≡ b % w → 0 < w → ((size + (w - present)) % w + kept) % w ≡ (r + b) % w
swapped_size w r a b size present kept is old new some =
    let part : a % w + w * (a / w) ≡ a = mod-add-div a w in
    let below : a % w < w = mod-lt a some in
    mod-add-mod (size + (w - present)) w kept
    ∙ ap (λ k. ((size + (w - present)) + k) % w) new
    ∙ add-mod-mod (size + (w - present)) b w
    ∙ ap (λ s. ((s + (w - present)) + b) % w) is
    ∙ ap (λ s. s % w) (rearranged ((r + a) % w) (w - present) b)
    ∙ mod-add-mod (r + a) w ((w - present) + b)
    ∙ ap (λ s. s % w) (whole r a b w (a % w) (w * (a / w)) present part old below)
    ∙ add-mul-mod_self_left ((r + b) + w) w (a / w)
    ∙ add-mod_right (r + b) w
  where
    rearranged : (s p b : ℕ) → (s + p) + b ≡ s + (p + b)
    rearranged s p b = omega arith

    whole : (r a b w m t present : ℕ) → m + t ≡ a → present ≡ m → m < w → (r + a) + ((w - present) + b) ≡ ((r + b) + w) + t
    whole r a b w m t present part old below = omega arith

-- a kept value takes the place of the present one
pub size_swapped : (m : Environment) (n : List ℕ) (v : Option (List ℕ)) (w size present kept : ℕ) → size ≡ used m % w → present ≡ size_of n (env.get m n) % w → kept ≡ size_of n v % w → 0 < w → ((size + (w - present)) % w + kept) % w ≡ used (with_value m n v) % w
size_swapped m n v w size present kept is old new some =
    swapped_size w (used (env.remove m n)) (size_of n (env.get m n)) (size_of n v) size present kept (is ∙ ap (λ s. s % w) (sym (used-remove m n))) old new some
    ∙ ap (λ s. s % w) (sym (used-with_value m n v))

-- a size that is known modulo a number above it
pub size_below : (s w size : ℕ) → size ≡ s % w → s < w → size ≡ s
size_below s w size is below = is ∙ mod-eq_of_lt below

-- one kept value is put back and kept no more
pub restored-taken : (m : Environment) (olds : OldValues) (n : List ℕ) (v : Option (List ℕ)) → env.get olds n ≡ Some v → restored (with_value m n v) (env.remove olds n) ≡ restored m olds
restored-taken m olds n v is = same_env _ _ (λ q.
    get-restored (with_value m n v) (env.remove olds n) q
    ∙ (λ i. unwrap_or (env.get-remove nat_list_cmp_total olds n q i) (get-with_value m n v q i))
    ∙ elim (bytes_cmp q n) as (λ r. bytes_cmp q n ≡ r → unwrap_or (cond (is_eq r) None (env.get olds q)) (cond (is_eq r) v (env.get m q)) ≡ unwrap_or (env.get olds q) (env.get m q)) [
      | Less ↦ λ p. refl
      | Equal ↦ λ p. sym (ap (λ f. unwrap_or f (env.get m q)) (ap (env.get olds) (same_name q n p) ∙ is))
      | Greater ↦ λ p. refl
    ] refl
    ∙ sym (get-restored m olds q))

pub place-taken : (m : Environment) (olds : OldValues) (n : List ℕ) (old : Option (List ℕ)) → HavePlaces m (env.entries olds) → env.get olds n ≡ Some old → IfSome old (λ v. IsSome (env.get m n))
place-taken m olds n None h is = tt
place-taken m olds n (Some v) h is = h n v (sym (env.get-entries olds n) ∙ is)

pub places-taken : (m : Environment) (olds : OldValues) (n : List ℕ) (old : Option (List ℕ)) → HavePlaces m (env.entries olds) → HavePlaces (with_value m n old) (env.entries (env.remove olds n))
places-taken m olds n old h q v is =
    elim (bytes_cmp q n) as (λ r. bytes_cmp q n ≡ r → IsSome (env.get (with_value m n old) q)) [
      | Less ↦ λ p. other Less p refl
      | Equal ↦ λ p. absurd (false≢true (ap is_some (sym (ap (λ o. cond (is_eq o) None (env.get olds q)) p) ∙ there)))
      | Greater ↦ λ p. other Greater p refl
    ] refl
  where
    there : cond (eq_by_cmp bytes_cmp q n) None (env.get olds q) ≡ Some (Some v)
    there = sym (env.get-remove nat_list_cmp_total olds n q) ∙ env.get-entries (env.remove olds n) q ∙ is

    other : (r : Ordering) → bytes_cmp q n ≡ r → is_eq r ≡ false → IsSome (env.get (with_value m n old) q)
    other r p apart =
        ap is_some (get-with_value m n old q ∙ ap (λ o. cond (is_eq o) old (env.get m q)) p ∙ ap (λ b. cond b old (env.get m q)) apart)
        ∙ h q v (sym (env.get-entries olds q) ∙ sym (ap (λ o. cond (is_eq o) None (env.get olds q)) p ∙ ap (λ b. cond b None (env.get olds q)) apart) ∙ there)

pub taken-fewer : (olds : OldValues) (n : List ℕ) (old : Option (List ℕ)) → env.get olds n ≡ Some old → env.len (env.remove olds n) < env.len olds
taken-fewer olds n old is =
    let some : env.len olds ≢ 0 = λ z. false≢true (ap is_some (sym (ap (λ m. env.get m n) (env.empty_of_len olds z) ∙ env.get-empty bytes_cmp n) ∙ is)) in
    let fewer : env.len (env.remove olds n) ≡ env.len olds - 1 = env.len-remove nat_list_cmp_total olds n ∙ ap (λ o. cond (is_some o) (env.len olds - 1) (env.len olds)) is in
    omega (arith, some, fewer)
