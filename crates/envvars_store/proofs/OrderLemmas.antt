-- Variables in the order of their names, as a front and a rest: what a search says gives `put`, `find` and the filter.
use Rattle.std.proofs.Common.{◌≡◌, ℕ, cond, not, T, List, [], ◌∷◌, ◌++◌, Some, None, sym, ap, subst, ◌∙◌, refl, is_eq, Ordering, Less, Equal, Greater}
use Rattle.std.specs.Ordering.{ordering_reverse}
use Rattle.std.specs.FinMap.Entries.{by_order, put, find, where_key, below_all, is_sorted}
use Rattle.std.proofs.lemmas.Cmp.{nat_list_cmp_total}
use Rattle.envimg_core.proofs.Facts.{and_left, and_right, and_both, is_less, less_is, same_name, find_below}
use Rattle.envimg_core.specs.Environment.{Pair, bytes_cmp}
use Rattle.envvars_store.specs.Order.{AllBefore, StartsAfter, is_other}

pub turned : (q n : List ℕ) (o : Ordering) → bytes_cmp q n ≡ o → bytes_cmp n q ≡ ordering_reverse o
turned q n o e = nat_list_cmp_total.antisymm n q ∙ ap ordering_reverse e

-- what is below all of a list is below an element of it
below_at : (n : List ℕ) (xs : List Pair) (e : Pair) (ys : List Pair) → T (below_all bytes_cmp n (xs ++ e ∷ ys)) → bytes_cmp n e.0 ≡ Less
below_at n [] e ys h = is_less _ (and_left _ _ h)
below_at n (x ∷ xs) e ys h = below_at n xs e ys (and_right _ _ h)

-- a name that doesn't come before an element comes after all that are before that element
pub all_before_greater : (q : List ℕ) (xs : List Pair) (e : Pair) (ys : List Pair) → T (is_sorted bytes_cmp (xs ++ e ∷ ys)) → bytes_cmp q e.0 ≡ Greater → AllBefore q xs
all_before_greater q [] e ys h g = tt
all_before_greater q (x ∷ xs) e ys h g =
    (turned x.0 q Less (nat_list_cmp_total.trans x.0 e.0 q (below_at x.0 xs e ys (and_left _ _ h)) (turned q e.0 Greater g)), all_before_greater q xs e ys (and_right _ _ h) g)

pub all_before_equal : (q : List ℕ) (xs : List Pair) (e : Pair) (ys : List Pair) → T (is_sorted bytes_cmp (xs ++ e ∷ ys)) → bytes_cmp q e.0 ≡ Equal → AllBefore q xs
all_before_equal q [] e ys h g = tt
all_before_equal q (x ∷ xs) e ys h g =
    (turned x.0 q Less (ap (bytes_cmp x.0) (same_name q e.0 g) ∙ below_at x.0 xs e ys (and_left _ _ h)), all_before_equal q xs e ys (and_right _ _ h) g)

pub all_before_push : (q : List ℕ) (xs : List Pair) (e : Pair) → AllBefore q xs → bytes_cmp q e.0 ≡ Greater → AllBefore q (xs ++ e ∷ [])
all_before_push q [] e b g = (g, tt)
all_before_push q (x ∷ xs) e b g = (b.0, all_before_push q xs e b.1 g)

pub all_before_append : (q : List ℕ) (xs ys : List Pair) → AllBefore q xs → AllBefore q ys → AllBefore q (xs ++ ys)
all_before_append q [] ys b g = g
all_before_append q (x ∷ xs) ys b g = (b.0, all_before_append q xs ys b.1 g)

-- a write in a gap, and over a variable
pub put_between : (q v : List ℕ) (xs ys : List Pair) → AllBefore q xs → StartsAfter q ys → put bytes_cmp q v (xs ++ ys) ≡ xs ++ (q, v) ∷ ys
put_between q v [] [] b s = refl
put_between q v [] (y ∷ ys) b s = ap (λ o. by_order o ((q, v) ∷ y ∷ ys) ((y.0, v) ∷ ys) (y ∷ put bytes_cmp q v ys)) s
put_between q v (x ∷ xs) ys b s =
    ap (λ o. by_order o ((q, v) ∷ x ∷ (xs ++ ys)) ((x.0, v) ∷ (xs ++ ys)) (x ∷ put bytes_cmp q v (xs ++ ys))) b.0 ∙ ap (λ r. x ∷ r) (put_between q v xs ys b.1 s)

pub put_over : (q v : List ℕ) (xs : List Pair) (e : Pair) (ys : List Pair) → AllBefore q xs → bytes_cmp q e.0 ≡ Equal → put bytes_cmp q v (xs ++ e ∷ ys) ≡ xs ++ (q, v) ∷ ys
put_over q v [] e ys b s = ap (λ o. by_order o ((q, v) ∷ e ∷ ys) ((e.0, v) ∷ ys) (e ∷ put bytes_cmp q v ys)) s ∙ ap (λ n. (n, v) ∷ ys) (sym (same_name q e.0 s))
put_over q v (x ∷ xs) e ys b s =
    ap (λ o. by_order o ((q, v) ∷ x ∷ (xs ++ e ∷ ys)) ((x.0, v) ∷ (xs ++ e ∷ ys)) (x ∷ put bytes_cmp q v (xs ++ e ∷ ys))) b.0 ∙ ap (λ r. x ∷ r) (put_over q v xs e ys b.1 s)

pub find_at : (q : List ℕ) (xs : List Pair) (e : Pair) (ys : List Pair) → AllBefore q xs → bytes_cmp q e.0 ≡ Equal → find bytes_cmp q (xs ++ e ∷ ys) ≡ Some e.1
find_at q [] e ys b s = ap (λ o. cond (is_eq o) (Some e.1) (find bytes_cmp q ys)) s
find_at q (x ∷ xs) e ys b s = ap (λ o. cond (is_eq o) (Some x.1) (find bytes_cmp q (xs ++ e ∷ ys))) b.0 ∙ find_at q xs e ys b.1 s

-- if the first comes after the name, all do
below_from : (q : List ℕ) (e : Pair) (ys : List Pair) → bytes_cmp q e.0 ≡ Less → T (below_all bytes_cmp e.0 ys) → T (below_all bytes_cmp q ys)
below_from q e [] s h = tt
below_from q e (y ∷ ys) s h = and_both _ _ (less_is _ (nat_list_cmp_total.trans q e.0 y.0 s (is_less _ (and_left _ _ h)))) (below_from q e ys s (and_right _ _ h))

starts_below : (q : List ℕ) (ys : List Pair) → T (is_sorted bytes_cmp ys) → StartsAfter q ys → T (below_all bytes_cmp q ys)
starts_below q [] h s = tt
starts_below q (y ∷ ys) h s = and_both _ _ (less_is _ s) (below_from q y ys s (and_left _ _ h))

pub sorted_rest : (xs ys : List Pair) → T (is_sorted bytes_cmp (xs ++ ys)) → T (is_sorted bytes_cmp ys)
sorted_rest [] ys h = h
sorted_rest (x ∷ xs) ys h = sorted_rest xs ys (and_right _ _ h)

find_passed : (q : List ℕ) (xs ys : List Pair) → AllBefore q xs → find bytes_cmp q (xs ++ ys) ≡ find bytes_cmp q ys
find_passed q [] ys b = refl
find_passed q (x ∷ xs) ys b = ap (λ o. cond (is_eq o) (Some x.1) (find bytes_cmp q (xs ++ ys))) b.0 ∙ find_passed q xs ys b.1

pub find_missed : (q : List ℕ) (xs ys : List Pair) → T (is_sorted bytes_cmp (xs ++ ys)) → AllBefore q xs → StartsAfter q ys → find bytes_cmp q (xs ++ ys) ≡ None
find_missed q xs ys h b s = find_passed q xs ys b ∙ find_below q ys (starts_below q ys (sorted_rest xs ys h) s)

-- the entries of other names
abbrev pub without : {X : Type 0} → List ℕ → List (List ℕ × X) → List (List ℕ × X)
without q es = where_key bytes_cmp (is_other q) es

pub without_below : {X : Type 0} (q : List ℕ) (ys : List (List ℕ × X)) → T (below_all bytes_cmp q ys) → without q ys ≡ ys
without_below q [] h = refl
without_below q (y ∷ ys) h = ap (λ o. cond (not (is_eq o)) (y ∷ without q ys) (without q ys)) (is_less _ (and_left _ _ h)) ∙ ap (λ r. y ∷ r) (without_below q ys (and_right _ _ h))

without_passed : (q : List ℕ) (xs ys : List Pair) → AllBefore q xs → without q (xs ++ ys) ≡ xs ++ without q ys
without_passed q [] ys b = refl
without_passed q (x ∷ xs) ys b = ap (λ o. cond (not (is_eq o)) (x ∷ without q (xs ++ ys)) (without q (xs ++ ys))) b.0 ∙ ap (λ r. x ∷ r) (without_passed q xs ys b.1)

pub without_at : (q : List ℕ) (xs : List Pair) (e : Pair) (ys : List Pair) → T (is_sorted bytes_cmp (xs ++ e ∷ ys)) → AllBefore q xs → bytes_cmp q e.0 ≡ Equal → without q (xs ++ e ∷ ys) ≡ xs ++ ys
without_at q xs e ys h b s =
    let rest = sorted_rest xs (e ∷ ys) h in
    let below : T (below_all bytes_cmp q ys) = subst (λ n. T (below_all bytes_cmp n ys)) (sym (same_name q e.0 s)) (and_left _ _ rest) in
    without_passed q xs (e ∷ ys) b ∙ ap (λ r. xs ++ r) (ap (λ o. cond (not (is_eq o)) (e ∷ without q ys) (without q ys)) s ∙ without_below q ys below)

pub without_missed : (q : List ℕ) (xs ys : List Pair) → T (is_sorted bytes_cmp (xs ++ ys)) → AllBefore q xs → StartsAfter q ys → without q (xs ++ ys) ≡ xs ++ ys
without_missed q xs ys h b s = without_passed q xs ys b ∙ ap (λ r. xs ++ r) (without_below q ys (starts_below q ys (sorted_rest xs ys h) s))
