-- Sorted entries as a map, variables among them as an environment: what `put` and the filter make of it.
use Rattle.std.proofs.Common.{◌≡◌, ℕ, T, List, [], Option, None, IsSome, is_some, length, cond, not, sym, ap, ◌∙◌, is_eq}
use Rattle.std.specs.Ordering.{eq_by_cmp}
use Rattle.std.proofs.lemmas.Bool.{false≢true}
use Rattle.std.specs.FinMap as env
use Rattle.std.specs.FinMap.{FinMap}
use Rattle.std.specs.FinMap.Entries.{put, find, is_sorted, is_sorted-put, is_sorted-where_key, find-where_key}
use Rattle.std.specs.Cmp.{alike_right, eq_by_cmp_equiv}
use Rattle.std.proofs.lemmas.Cmp.{nat_list_cmp_total}
use Rattle.envimg_core.proofs.Facts.{same_name, turned_cond}
use Rattle.envimg_core.specs.Environment.{Pair, bytes_cmp, Environment}
use Rattle.envvars_store.specs.Order.{is_other}
use Rattle.envvars_store.proofs.OrderLemmas.{without}

-- the map of entries in order
abbrev pub env_of : {X : Type 0} → List (List ℕ × X) → FinMap bytes_cmp X
env_of es = env.from_sorted es

pub sorted_put : {X : Type 0} (q : List ℕ) (v : X) (es : List (List ℕ × X)) → T (is_sorted bytes_cmp es) → T (is_sorted bytes_cmp (put bytes_cmp q v es))
sorted_put q v es h = is_sorted-put bytes_cmp nat_list_cmp_total q v es h

pub sorted_without : {X : Type 0} (q : List ℕ) (es : List (List ℕ × X)) → T (is_sorted bytes_cmp es) → T (is_sorted bytes_cmp (without q es))
sorted_without q es h = is_sorted-where_key bytes_cmp (is_other q) es h

pub env_empty : {X : Type 0} → env_of {X = X} [] ≡ env.empty
env_empty = env.empty_of_len _ (env.len-entries _ ∙ ap length (env.entries-from_sorted bytes_cmp [] tt))

pub env_put : {X : Type 0} (q : List ℕ) (v : X) (es : List (List ℕ × X)) → T (is_sorted bytes_cmp es) → env_of (put bytes_cmp q v es) ≡ env.insert (env_of es) q v
env_put q v es h =
    env.same_entries_map _ _ (env.entries-from_sorted bytes_cmp _ (sorted_put q v es h) ∙ ap (put bytes_cmp q v) (sym (env.entries-from_sorted bytes_cmp es h)) ∙ sym (env.entries-insert nat_list_cmp_total (env_of es) q v))

pub env_without : {X : Type 0} (q : List ℕ) (es : List (List ℕ × X)) → T (is_sorted bytes_cmp es) → env_of (without q es) ≡ env.remove (env_of es) q
env_without q es h =
    env.same_map nat_list_cmp_total same_name _ _ (λ p.
    env.get-from_sorted bytes_cmp (without q es) p (sorted_without q es h)
    ∙ find-where_key bytes_cmp (is_other q) p (λ x t. ap (λ r. not (is_eq r)) (sym (alike_right nat_list_cmp_total p x q t))) es
    ∙ turned_cond (eq_by_cmp bytes_cmp q p) (find bytes_cmp p es) None
    ∙ ap (λ b. cond b None (find bytes_cmp p es)) ((eq_by_cmp_equiv nat_list_cmp_total).symm q p)
    ∙ ap (cond (eq_by_cmp bytes_cmp p q) None) (sym (env.get-from_sorted bytes_cmp es p h))
    ∙ sym (env.get-remove nat_list_cmp_total (env_of es) q p))

-- the same, for an environment that the variables give
pub given_put : (p : Pair) (q v : List ℕ) (old new : List Pair) (m : Environment) → T (is_sorted bytes_cmp old) → p ≡ (q, v) → env_of old ≡ m → new ≡ put bytes_cmp p.0 p.1 old → env_of new ≡ env.insert m q v
given_put p q v old new m h is at e =
    ap env_of e ∙ env_put p.0 p.1 old h ∙ ap (λ (x : Pair). env.insert (env_of old) x.0 x.1) is ∙ ap (λ n. env.insert n q v) at

pub given_without : {X : Type 0} (q : List ℕ) (old new : List (List ℕ × X)) (m : FinMap bytes_cmp X) → T (is_sorted bytes_cmp old) → env_of old ≡ m → new ≡ without q old → env_of new ≡ env.remove m q
given_without q old new m h at e = ap env_of e ∙ env_without q old h ∙ ap (λ n. env.remove n q) at

pub given_entries : {X : Type 0} (es : List (List ℕ × X)) (m : FinMap bytes_cmp X) → T (is_sorted bytes_cmp es) → env_of es ≡ m → es ≡ env.entries m
given_entries es m h at = sym (env.entries-from_sorted bytes_cmp es h) ∙ ap env.entries at

pub none_is : (o : Option (List ℕ)) → o ≡ None → IsSome o → ⊥
none_is o e s = false≢true (sym (ap is_some e) ∙ s)
