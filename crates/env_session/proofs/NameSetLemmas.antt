-- The names that are kept, as a set.
use Rattle.std.proofs.Common.{◌≡◌, ℕ, true, false, cond, not, ◌&&◌, ◌||◌, T, List, [], ◌∷◌, map, length, fold, Option, Some, None, is_some, unwrap_or, option_map, refl, sym, ap, ◌∙◌}
use Rattle.std.specs.Prelude.{is_none}
use Rattle.std.proofs.lemmas.List.{length-map}
use Rattle.std.specs.List.{AllByRecursion, list_all}
use Rattle.std.specs.Ordering.{is_eq, eq_by_cmp}
use Rattle.std.specs.declared.cmp.Ordering.TheVariants.{Less, Equal, Greater}
use Rattle.std.specs.Cmp.{tied_itself}
use Rattle.std.specs.Cmp.Lexicographic.{nat_list_cmp_total}
use Rattle.std.specs.FinMap as env
use Rattle.std.specs.FinMap.Entries.{find, below_all, is_sorted}
use Rattle.envimg_core.proofs.Facts.{and_left, and_right, and_both, same_name}
use Rattle.envimg_core.specs.Environment.{Environment, bytes_cmp}
use Rattle.envimg_core.specs.Pieces.{Entry, after_entry}
use Rattle.envvars_core.specs.Attributes.{flags_name}
use Rattle.envvars_core.specs.Refusals.{given}
use Rattle.envvars_core.specs.Olds.{OldValues, same_value, kept, kept_by, restored, has_place, goes_in_place}
use Rattle.envvars_core.proofs.RestoreLemmas.{get-fold}
use Rattle.env_session.specs.NameSets.{no_names, changed_names_after, comes_back_in_place}
use Rattle.env_session.specs.Spans.{kept_names}

abbrev name_in : Entry → List ℕ × Unit {0}
name_in e = (e.0, tt)

below_names : (x : List ℕ) (es : List Entry) → T (below_all bytes_cmp x es) → T (below_all bytes_cmp x (map name_in es))
below_names x [] h = tt
below_names x (e ∷ es) h = and_both _ _ (and_left _ _ h) (below_names x es (and_right _ _ h))

sorted_names : (es : List Entry) → T (is_sorted bytes_cmp es) → T (is_sorted bytes_cmp (map name_in es))
sorted_names [] h = tt
sorted_names (e ∷ es) h = and_both _ _ (below_names e.0 es (and_left _ _ h)) (sorted_names es (and_right _ _ h))

abbrev marked : Option (Option (List ℕ)) → Option (Unit {0})
marked o = option_map (λ _. tt) o

find_names : (q : List ℕ) (es : List Entry) → find bytes_cmp q (map name_in es) ≡ marked (find bytes_cmp q es)
find_names q [] = refl
find_names q (e ∷ es) = elim (eq_by_cmp bytes_cmp q e.0) as (λ b. cond b (Some tt) (find bytes_cmp q (map name_in es)) ≡ option_map (λ _. tt) (cond b (Some e.1) (find bytes_cmp q es))) [ true ↦ refl | false ↦ find_names q es ]

names-entries : (olds : OldValues) → env.entries (kept_names olds) ≡ map name_in (env.entries olds)
unfolding kept_names
names-entries olds = env.entries-from_sorted bytes_cmp (map name_in (env.entries olds)) (sorted_names (env.entries olds) (env.entries_sorted olds))

names-get : (olds : OldValues) (q : List ℕ) → env.get (kept_names olds) q ≡ marked (env.get olds q)
names-get olds q = env.get-entries (kept_names olds) q ∙ ap (find bytes_cmp q) (names-entries olds) ∙ find_names q (env.entries olds) ∙ ap marked (sym (env.get-entries olds q))

is_some-marked : (o : Option (Option (List ℕ))) → is_some (marked o) ≡ is_some o
is_some-marked None = refl
is_some-marked (Some x) = refl

names-contains : (olds : OldValues) (q : List ℕ) → env.contains_key (kept_names olds) q ≡ env.contains_key olds q
names-contains olds q = ap is_some (names-get olds q) ∙ is_some-marked (env.get olds q)

pub names-empty : kept_names env.empty ≡ no_names
names-empty = env.same_map nat_list_cmp_total same_name _ _ (λ q. names-get env.empty q ∙ ap marked (env.get-empty bytes_cmp q) ∙ sym (env.get-empty bytes_cmp q))

pub names-len : (olds : OldValues) → env.len olds ≡ env.len (kept_names olds)
names-len olds = env.len-entries olds ∙ sym (length-map (env.entries olds) name_in) ∙ ap length (sym (names-entries olds)) ∙ sym (env.len-entries (kept_names olds))

insert_one : (olds : OldValues) (n : List ℕ) (o : Option (Option (List ℕ))) (old : Option (List ℕ)) (q : List ℕ) → env.get olds n ≡ o → marked (env.get (cond (is_some o) olds (env.insert olds n old)) q) ≡ cond (eq_by_cmp bytes_cmp q n) (Some (tt {0})) (marked (env.get olds q))
insert_one olds n (Some x) old q is =
    elim (bytes_cmp q n) as (λ r. bytes_cmp q n ≡ r → marked (env.get olds q) ≡ cond (is_eq r) (Some (tt {0})) (marked (env.get olds q))) [
      | Less ↦ λ p. refl
      | Equal ↦ λ p. ap marked (ap (env.get olds) (same_name q n p) ∙ is)
      | Greater ↦ λ p. refl
    ] refl
insert_one olds n None old q is =
    ap marked (env.get-insert nat_list_cmp_total olds n old q)
    ∙ elim (eq_by_cmp bytes_cmp q n) as (λ b. marked (cond b (Some old) (env.get olds q)) ≡ cond b (Some (tt {0})) (marked (env.get olds q))) [ true ↦ refl | false ↦ refl ]

names-kept : (olds : OldValues) (n : List ℕ) (old : Option (List ℕ)) → kept_names (kept olds n old) ≡ env.insert (kept_names olds) n tt
unfolding kept
names-kept olds n old = env.same_map nat_list_cmp_total same_name _ _ (λ q.
    names-get (cond (env.contains_key olds n) olds (env.insert olds n old)) q
    ∙ insert_one olds n (env.get olds n) old q refl
    ∙ ap (cond (eq_by_cmp bytes_cmp q n) (Some tt)) (sym (names-get olds q))
    ∙ sym (env.get-insert nat_list_cmp_total (kept_names olds) n tt q))

pub names-kept_by : (m : Environment) (n : List ℕ) (new : Option (List ℕ)) (olds : OldValues) → kept_names (kept_by m n new olds) ≡ changed_names_after m n new (kept_names olds)
unfolding kept_by changed_names_after
names-kept_by m n new olds =
    elim (same_value (env.get m n) (given new)) as (λ b. kept_names (cond b olds (kept olds n (env.get m n))) ≡ cond b (kept_names olds) (env.insert (kept_names olds) n tt)) [ true ↦ refl | false ↦ names-kept olds n (env.get m n) ]

-- what comes back is what was kept
comes_back : (es : List Entry) (m : Environment) → T (is_sorted bytes_cmp es) → AllByRecursion (λ e. env.get (fold after_entry m es) e.0 ≡ e.1) es
comes_back [] m h = tt
comes_back (e ∷ es) m h = (get-fold (e ∷ es) m e.0 h ∙ ap (λ b. unwrap_or (cond (is_eq b) (Some e.1) (find bytes_cmp e.0 es)) (env.get m e.0)) (tied_itself nat_list_cmp_total e.0), comes_back es (after_entry m e) (and_right _ _ h))

all_places : (begun now : Environment) (es : List Entry) → AllByRecursion (λ e. env.get begun e.0 ≡ e.1) es → list_all (has_place now) es ≡ list_all (λ n. is_none (env.get begun n) || is_some (env.get now n)) (map (λ (x : List ℕ × Unit {0}). x.0) (map name_in es))
all_places begun now [] h = refl
all_places begun now (e ∷ es) h = λ i. (is_none (sym h.0 i) || is_some (env.get now e.0)) && all_places begun now es h.1 i

pub same_in_place : (now : Environment) (olds : OldValues) → goes_in_place now olds ≡ comes_back_in_place (restored now olds) now (kept_names olds)
unfolding goes_in_place comes_back_in_place restored
same_in_place now olds = λ i. not (sym (names-contains olds flags_name) i) && (all_places (restored now olds) now (env.entries olds) (comes_back (env.entries olds) now (env.entries_sorted olds)) ∙ ap (λ (es : List (List ℕ × Unit {0})). list_all (λ n. is_none (env.get (restored now olds) n) || is_some (env.get now n)) (map (λ (x : List ℕ × Unit {0}). x.0) es)) (sym (names-entries olds))) i
