-- What is kept with an environment: the attributes that its `.flags` gives.
use Rattle.std.proofs.Common.{◌≡◌, ℕ, false, cond, List, [], Option, Some, None, unwrap_or, refl, sym, ap, ◌∙◌}
use Rattle.std.specs.Ordering.{is_eq, eq_by_cmp}
use Rattle.std.specs.declared.cmp.Ordering.TheVariants.{Less, Equal, Greater}
use Rattle.std.specs.Cmp.Lexicographic.{nat_list_cmp_total}
use Rattle.std.specs.FinMap as env
use Rattle.std.specs.FinMap.{get-empty, get-insert, get-remove}
use Rattle.envimg_core.specs.Environment.{Environment, bytes_cmp}
use Rattle.envimg_core.specs.Pieces.{with_value}
use Rattle.envimg_core.proofs.Facts.{same_name}
use Rattle.envvars_core.specs.Attributes.{attr_among, attributes_in, attributes, flags_name}

pub attributes_by : (m : Environment) (o : Option (List ℕ)) (n : List ℕ) → o ≡ env.get m flags_name → attributes_in (unwrap_or o []) n ≡ attributes m n
unfolding attributes
attributes_by m o n e = ap (λ p. attributes_in (unwrap_or p []) n) e

-- a text without a byte gives no attributes
pub no_text : (n : List ℕ) → attr_among [] n ≡ attributes_in [] n
unfolding attributes_in
no_text n = refl

pub attributes-empty : (n : List ℕ) → attr_among [] n ≡ attributes env.empty n
attributes-empty n = no_text n ∙ attributes_by env.empty None n (sym (get-empty bytes_cmp flags_name))

apart : (q n : List ℕ) → (n ≡ q → ⊥) → eq_by_cmp bytes_cmp q n ≡ false
apart q n ne =
    elim (bytes_cmp q n) as (λ o. bytes_cmp q n ≡ o → is_eq o ≡ false) [
      | Less ↦ λ p. refl
      | Equal ↦ λ p. absurd (ne (sym (same_name q n p)))
      | Greater ↦ λ p. refl
    ] refl

get_other : (m : Environment) (n : List ℕ) (v : Option (List ℕ)) (q : List ℕ) → (n ≡ q → ⊥) → env.get (with_value m n v) q ≡ env.get m q
get_other m n None q ne = get-remove nat_list_cmp_total m n q ∙ ap (λ b. cond b None (env.get m q)) (apart q n ne)
get_other m n (Some v) q ne = get-insert nat_list_cmp_total m n v q ∙ ap (λ b. cond b (Some v) (env.get m q)) (apart q n ne)

get_flags : (m : Environment) (v : Option (List ℕ)) → env.get (with_value m flags_name v) flags_name ≡ v
get_flags m None = get-remove nat_list_cmp_total m flags_name flags_name
get_flags m (Some v) = get-insert nat_list_cmp_total m flags_name v flags_name

-- a write of another name leaves the attributes
pub attributes_other : (m : Environment) (n : List ℕ) (v : Option (List ℕ)) (x : List ℕ) → (n ≡ flags_name → ⊥) → attributes m x ≡ attributes (with_value m n v) x
attributes_other m n v x ne = sym (attributes_by m (env.get m flags_name) x refl) ∙ attributes_by (with_value m n v) (env.get m flags_name) x (sym (get_other m n v flags_name ne))

-- a write of `.flags` makes them those of its value
pub attributes_set : (m : Environment) (v : Option (List ℕ)) (x : List ℕ) → attributes_in (unwrap_or v []) x ≡ attributes (with_value m flags_name v) x
attributes_set m v x = attributes_by (with_value m flags_name v) v x (sym (get_flags m v))
