-- The laws: the last entry decides, an image reads back, what is loaded fits.
use Rattle.std.proofs.Common.{◌≡◌, ℕ, ◌++◌, Bool, true, false, cond, List, [], ◌∷◌, fold, Option, Some, None, find, reverse, refl, sym, ap, ◌∙◌}
use Rattle.std.specs.Option.{option_and_then}
use Rattle.std.specs.Ordering.{eq_by_cmp}
use Rattle.std.proofs.lemmas.List.{reverse-append}
use Rattle.std.specs.FinMap as env
use Rattle.std.specs.Cmp.Lexicographic.{nat_list_cmp_total}
use Rattle.envimg_core.specs.Environment.{Environment, bytes_cmp}
use Rattle.envimg_core.specs.Pieces.{Entry, after_entry}
use Rattle.envimg_core.specs.Laws.{last_named, LastDecides}

-- ---- the last entry decides

decided : Option Entry → Option (List ℕ) → Option (List ℕ)
decided None before = before
decided (Some e) before = e.1

got_after : (m : Environment) (e : Entry) (q : List ℕ) → env.get (after_entry m e) q ≡ cond (eq_by_cmp bytes_cmp q e.0) e.1 (env.get m q)
got_after m e q = by_value m e.0 e.1 q
  where
    by_value : (n : Environment) (k : List ℕ) (v : Option (List ℕ)) (r : List ℕ) → env.get (after_entry n (k, v)) r ≡ cond (eq_by_cmp bytes_cmp r k) v (env.get n r)
    by_value n k None r = env.get-remove nat_list_cmp_total n k r
    by_value n k (Some v) r = env.get-insert nat_list_cmp_total n k v r

find_behind : (p : Entry → Bool) (xs ys : List Entry) (d : Option (List ℕ)) → decided (find p (xs ++ ys)) d ≡ decided (find p xs) (decided (find p ys) d)
unfolding decided
find_behind p [] ys d = refl
find_behind p (x ∷ xs) ys d =
    elim (p x) as (λ b. decided (cond b (Some x) (find p (xs ++ ys))) d ≡ decided (cond b (Some x) (find p xs)) (decided (find p ys) d)) [
      | true ↦ refl
      | false ↦ find_behind p xs ys d
    ]

decides_from : (es : List Entry) (m : Environment) (q : List ℕ) → env.get (fold after_entry m es) q ≡ decided (last_named q es) (env.get m q)
unfolding decided
decides_from [] m q = refl
decides_from (e ∷ es) m q =
    decides_from es (after_entry m e) q
    ∙ ap (decided (last_named q es)) (got_after m e q ∙ one (eq_by_cmp bytes_cmp q e.0) (env.get m q))
    ∙ sym (ap (λ xs. decided (find (λ x. eq_by_cmp bytes_cmp q x.0) xs) (env.get m q)) (reverse-append (e ∷ []) es) ∙ find_behind (λ x. eq_by_cmp bytes_cmp q x.0) (reverse es) (e ∷ []) (env.get m q))
  where
    one : (b : Bool) (d : Option (List ℕ)) → cond b e.1 d ≡ decided (cond b (Some e) None) d
    one true d = refl
    one false d = refl

pub last_decides : (es : List Entry) (name : List ℕ) → LastDecides es name
unfolding decided
last_decides es name =
    decides_from es env.empty name
    ∙ ap (decided (last_named name es)) (env.get-empty bytes_cmp name)
    ∙ both (last_named name es)
  where
    both : (o : Option Entry) → decided o None ≡ option_and_then (λ e. e.1) o
    both None = refl
    both (Some e) = refl
