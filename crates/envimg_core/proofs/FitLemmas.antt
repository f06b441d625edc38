-- What is loaded from a terminated area fits into it.
use Rattle.std.proofs.Common.{◌≡◌, ◌≢◌, ℕ, suc, ◌+◌, ◌-◌, ◌≤◌, Bool, true, false, not, cond, List, [], ◌∷◌, map, filter, fold, length, Some, None, sum_by, IsTrue, T, refl, sym, ap, ◌∙◌, subst, arith, length-take, length-drop}
use Rattle.std.specs.List.{list_any, slice_split, onto_first, take_while, position_or_len, before_first, after_first}
use Rattle.std.specs.declared.cmp.Ordering.TheVariants.{Less, Equal, Greater}
use Rattle.std.specs.Ordering.{eq_by_cmp}
use Rattle.std.specs.FinMap as env
use Rattle.std.specs.FinMap.Entries.{put, where_key, by_order, is_sorted, is_sorted-where_key, find-where_key}
use Rattle.std.specs.Cmp.{eq_by_cmp_equiv}
use Rattle.std.specs.Cmp.Lexicographic.{nat_list_cmp_total}
use Rattle.std.proofs.lemmas.List.Sums.{sum_by-cons, take_while-cons}
use Rattle.std.proofs.lemmas.List.Splits.{slice_split-cons_yes, slice_split-cons_no}
use Rattle.envimg_core.proofs.Facts.{same_name, turned_cond}
use Rattle.envimg_core.specs.Environment.{Environment, Pair, bytes_cmp, pair_size, used, is_zero, is_equals, is_empty}
use Rattle.envimg_core.specs.Pieces.{but_last, ended_pieces, is_terminated, Entry, entry_of, value_of, has_name, entries_of, after_entry, vars_of}
use Rattle.envimg_core.proofs.EntryLemmas.{split_cons}
use Rattle.envimg_core.proofs.ImageLemmas.{empty_entries}

-- the bytes that a piece takes with its 0
piece_size : List ℕ → ℕ
piece_size p = length p + 1

cost : Entry → ℕ
cost (n, None) = 0
cost (n, Some v) = length n + length v + 2

put_cost : (k v : List ℕ) (es : List Pair) → sum_by pair_size (put bytes_cmp k v es) ≤ sum_by pair_size es + (length k + length v + 2)
put_cost k v [] = omega arith
put_cost k v (e ∷ es) =
    let rest : sum_by pair_size (put bytes_cmp k v es) ≤ sum_by pair_size es + (length k + length v + 2) = put_cost k v es in
    let whole : sum_by pair_size (e ∷ es) ≡ length e.0 + length e.1 + 2 + sum_by pair_size es = sum_by-cons pair_size e es in
    elim (bytes_cmp k e.0) as (λ o. bytes_cmp k e.0 ≡ o → sum_by pair_size (by_order o ((k, v) ∷ e ∷ es) ((e.0, v) ∷ es) (e ∷ put bytes_cmp k v es)) ≤ sum_by pair_size (e ∷ es) + (length k + length v + 2)) [
      | Less ↦ λ is. omega (arith, sum_by-cons pair_size (k, v) (e ∷ es))
      | Equal ↦ λ is. omega (arith, sum_by-cons pair_size (e.0, v) es, ap length (same_name k e.0 is))
      | Greater ↦ λ is. omega (arith, sum_by-cons pair_size e (put bytes_cmp k v es))
    ] refl

where_cost : (p : List ℕ → Bool) (es : List Pair) → sum_by pair_size (where_key bytes_cmp p es) ≤ sum_by pair_size es
where_cost p [] = omega arith
where_cost p (e ∷ es) =
    let rest : sum_by pair_size (where_key bytes_cmp p es) ≤ sum_by pair_size es = where_cost p es in
    let whole : sum_by pair_size (e ∷ es) ≡ pair_size e + sum_by pair_size es = sum_by-cons pair_size e es in
    elim (p e.0) as (λ b. sum_by pair_size (cond b (e ∷ where_key bytes_cmp p es) (where_key bytes_cmp p es)) ≤ sum_by pair_size (e ∷ es)) [
      | true ↦ omega (arith, sum_by-cons pair_size e (where_key bytes_cmp p es))
      | false ↦ omega arith
    ]

-- what is left when a name is taken away
pub entries_remove : (m : Environment) (k : List ℕ) → env.entries (env.remove m k) ≡ where_key bytes_cmp (λ x. not (eq_by_cmp bytes_cmp k x)) (env.entries m)
entries_remove m k =
    ap env.entries (sym (env.same_map nat_list_cmp_total same_name left (env.remove m k) (λ q. alike q)))
    ∙ env.entries-from_sorted bytes_cmp es sorted
  where
    keep : List ℕ → Bool
    keep x = not (eq_by_cmp bytes_cmp k x)

    es : List Pair
    es = where_key bytes_cmp keep (env.entries m)

    sorted : T (is_sorted bytes_cmp es)
    sorted = is_sorted-where_key bytes_cmp keep (env.entries m) (env.entries_sorted m)

    left : Environment
    left = env.from_sorted es

    alike : (q : List ℕ) → env.get left q ≡ env.get (env.remove m k) q
    alike q =
        env.get-from_sorted bytes_cmp es q sorted
        ∙ find-where_key bytes_cmp keep q (λ x t. ap keep (sym (same_name q x t))) (env.entries m)
        ∙ turned_cond (eq_by_cmp bytes_cmp k q) (env.find bytes_cmp q (env.entries m)) None
        ∙ ap (λ b. cond b None (env.find bytes_cmp q (env.entries m))) ((eq_by_cmp_equiv nat_list_cmp_total).symm k q)
        ∙ ap (cond (eq_by_cmp bytes_cmp q k) None) (sym (env.get-entries m q))
        ∙ sym (env.get-remove nat_list_cmp_total m k q)

after_cost : (m : Environment) (e : Entry) → used (after_entry m e) ≤ used m + cost e
unfolding cost
after_cost m (n, None) =
    let less : sum_by pair_size (env.entries (env.remove m n)) ≤ sum_by pair_size (env.entries m) =
    subst (λ es. sum_by pair_size es ≤ sum_by pair_size (env.entries m)) (sym (entries_remove m n)) (where_cost (λ x. not (eq_by_cmp bytes_cmp n x)) (env.entries m)) in
    omega arith
after_cost m (n, Some v) =
    let grown : sum_by pair_size (env.entries (env.insert m n v)) ≤ sum_by pair_size (env.entries m) + (length n + length v + 2) =
    subst (λ es. sum_by pair_size es ≤ sum_by pair_size (env.entries m) + (length n + length v + 2)) (sym (env.entries-insert nat_list_cmp_total m n v)) (put_cost n v (env.entries m)) in
    omega arith

fold_cost : (es : List Entry) (m : Environment) → used (fold after_entry m es) ≤ used m + sum_by cost es
fold_cost [] m = omega arith
fold_cost (e ∷ es) m =
    let here : used (after_entry m e) ≤ used m + cost e = after_cost m e in
    let there : used (fold after_entry (after_entry m e) es) ≤ used (after_entry m e) + sum_by cost es = fold_cost es (after_entry m e) in
    omega (arith, sum_by-cons cost e es)

entry_cost : (p : List ℕ) → cost (entry_of p) ≤ piece_size p
unfolding cost piece_size
entry_cost p = by_rest (after_first is_equals p) refl
  where
    by_rest : (rest : List ℕ) → after_first is_equals p ≡ rest → cost (before_first is_equals p, value_of rest) ≤ length p + 1
    by_rest [] e = omega arith
    by_rest (b ∷ bs) e =
        let behind : length (after_first is_equals p) ≡ length p - (position_or_len is_equals p + 1) = length-drop (position_or_len is_equals p + 1) p in
        let before : length (before_first is_equals p) ≤ position_or_len is_equals p = omega (arith, length-take (position_or_len is_equals p) p) in
        omega (arith, ap length e)

entries_cost : (ps : List (List ℕ)) → sum_by cost (filter has_name (map entry_of ps)) ≤ sum_by piece_size ps
entries_cost [] = omega arith
entries_cost (p ∷ ps) =
    let rest : sum_by cost (filter has_name (map entry_of ps)) ≤ sum_by piece_size ps = entries_cost ps in
    let here : cost (entry_of p) ≤ piece_size p = entry_cost p in
    let whole : sum_by piece_size (p ∷ ps) ≡ piece_size p + sum_by piece_size ps = sum_by-cons piece_size p ps in
    elim (has_name (entry_of p)) as (λ b. sum_by cost (cond b (entry_of p ∷ filter has_name (map entry_of ps)) (filter has_name (map entry_of ps))) ≤ sum_by piece_size (p ∷ ps)) [
      | true ↦ omega (arith, sum_by-cons cost (entry_of p) (filter has_name (map entry_of ps)))
      | false ↦ omega arith
    ]

-- the pieces before the first empty one leave room for the 0 that ends the list
before_empty : (ps : List (List ℕ)) → list_any is_empty ps ≡ true → sum_by piece_size (take_while (λ p. not (is_empty p)) ps) + 1 ≤ sum_by piece_size ps
unfolding piece_size
before_empty [] h = cc
before_empty ([] ∷ ps) h = omega (arith, sum_by-cons piece_size [] ps)
before_empty ((b ∷ bs) ∷ ps) h =
    let rest : sum_by piece_size (take_while (λ p. not (is_empty p)) ps) + 1 ≤ sum_by piece_size ps = before_empty ps h in
    let front : take_while (λ p. not (is_empty p)) ((b ∷ bs) ∷ ps) ≡ (b ∷ bs) ∷ take_while (λ p. not (is_empty p)) ps = take_while-cons (λ p. not (is_empty p)) (b ∷ bs) ps in
    omega (arith, ap (sum_by piece_size) front, sum_by-cons piece_size (b ∷ bs) ps, sum_by-cons piece_size (b ∷ bs) (take_while (λ p. not (is_empty p)) ps))

but_last_size : (ps : List (List ℕ)) → ps ≢ [] → sum_by piece_size (but_last ps) + 1 ≤ sum_by piece_size ps
unfolding piece_size
but_last_size [] h = absurd (h refl)
but_last_size (p ∷ []) h = omega (arith, sum_by-cons piece_size p [])
but_last_size (p ∷ q ∷ ps) h =
    let rest : sum_by piece_size (but_last (q ∷ ps)) + 1 ≤ sum_by piece_size (q ∷ ps) = but_last_size (q ∷ ps) (λ e. cc) in
    omega (arith, sum_by-cons piece_size p (q ∷ ps), sum_by-cons piece_size p (but_last (q ∷ ps)))

split_size : (xs : List ℕ) → sum_by piece_size (slice_split is_zero xs) ≡ length xs + 1
unfolding piece_size
split_size [] = refl
split_size (x ∷ xs) =
    let rest : sum_by piece_size (slice_split is_zero xs) ≡ length xs + 1 = split_size xs in
    let parts = split_cons xs in
    elim (is_zero x) as (λ b. is_zero x ≡ b → sum_by piece_size (slice_split is_zero (x ∷ xs)) ≡ length (x ∷ xs) + 1) [
      | true ↦ λ e. ap (sum_by piece_size) (slice_split-cons_yes is_zero x xs e) ∙ sum_by-cons piece_size [] (slice_split is_zero xs) ∙ (let k : 0 + 1 + sum_by piece_size (slice_split is_zero xs) ≡ suc (length xs) + 1 = omega arith in k)
      | false ↦ λ e. ap (sum_by piece_size) (slice_split-cons_no is_zero x xs e ∙ ap (onto_first x) parts.2) ∙ sum_by-cons piece_size (x ∷ parts.0) parts.1
          ∙ (let k : suc (length parts.0) + 1 + sum_by piece_size parts.1 ≡ suc (length xs) + 1 = omega (arith, ap (sum_by piece_size) parts.2, sum_by-cons piece_size parts.0 parts.1) in k)
    ] refl

pub loaded_fits : (area : List ℕ) → IsTrue (is_terminated area) → used (vars_of (entries_of area)) ≤ length area
unfolding entries_of
loaded_fits area ended =
    let parts = split_cons area in
    let full : slice_split is_zero area ≢ [] = λ e. cc in
    let sizes : sum_by piece_size (ended_pieces area) + 1 ≤ sum_by piece_size (slice_split is_zero area) = but_last_size (slice_split is_zero area) full in
    let pieces : sum_by piece_size (take_while (λ p. not (is_empty p)) (ended_pieces area)) + 1 ≤ sum_by piece_size (ended_pieces area) = before_empty (ended_pieces area) ended in
    let costs : sum_by cost (entries_of area) ≤ sum_by piece_size (take_while (λ p. not (is_empty p)) (ended_pieces area)) = entries_cost (take_while (λ p. not (is_empty p)) (ended_pieces area)) in
    let all : used (vars_of (entries_of area)) ≤ used (env.empty {X = List ℕ} {R = bytes_cmp}) + sum_by cost (entries_of area) = fold_cost (entries_of area) env.empty in
    let none : used (env.empty {X = List ℕ} {R = bytes_cmp}) ≡ 1 = ap (λ es. sum_by pair_size es + 1) empty_entries in
    omega (arith, split_size area)
