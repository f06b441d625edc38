-- What the code compares, stated for the variables in order.
use Rattle.std.proofs.Common.{◌≡◌, ℕ, suc, ◌+◌, ◌-◌, ◌<◌, ◌≤◌, T, List, [], ◌∷◌, ◌++◌, length, take, drop, get_or, All, vec_len, sym, ap, subst, ◌∙◌, refl, arith, add-one, Ordering, Less, Equal, Greater}
use Rattle.std.specs.FinMap.Entries.{is_sorted, below_all}
use Rattle.std.proofs.Math.Seq.{drop-cons, take-suc}
use Rattle.std.proofs.lemmas.List.{take-append-drop, take-map, drop-map, length-map, get_or-map, map-append}
use Rattle.std.proofs.lemmas.List.Elements.{All-cons}
use Rattle.envimg_core.specs.Environment.{Pair, bytes_cmp}
use Rattle.envvars_store.specs.Order.{AllBefore, StartsAfter, IsFound, IsGap}
use Rattle.envvars_store.specs.Laying.{pair_of, LiesIn}
use Rattle.envvars_store.specs.Runs.{Run, flat, pairs, listed, variables_at, IsFilled, AreInOrder, IsRunFor, IsPositionOf, BelongsAt}
use Rattle.envvars_store.specs.declared.variable.Variable.{Variable}
use Rattle.envimg_core.proofs.Facts.{and_left, and_right, and_both}
use Rattle.envvars_store.proofs.OrderLemmas.{all_before_greater, all_before_equal, all_before_push, all_before_append, sorted_rest}
use Rattle.envvars_store.proofs.RunLemmas.{variables_read, flat_cut, long}

-- the variables, cut at an index
cut : (es : List Pair) (i : ℕ) → i < length es → es ≡ take i es ++ get_or es i ([], []) ∷ drop (suc i) es
cut es i h = sym (take-append-drop i es) ∙ ap (λ r. take i es ++ r) (drop-cons es i ([], []) h)

sorted_cut : (es : List Pair) (i : ℕ) → i < length es → T (is_sorted bytes_cmp es) → T (is_sorted bytes_cmp (take i es ++ get_or es i ([], []) ∷ drop (suc i) es))
sorted_cut es i h p = subst (λ xs. T (is_sorted bytes_cmp xs)) (cut es i h) p

-- a name that comes after the variable at i comes after all up to it
pub passed : (q : List ℕ) (es : List Pair) (i : ℕ) → T (is_sorted bytes_cmp es) → i < length es → bytes_cmp q (get_or es i ([], [])).0 ≡ Greater → AllBefore q (take (i + 1) es)
passed q es i h w g =
    let up = all_before_push q (take i es) _ (all_before_greater q (take i es) _ _ (sorted_cut es i w h) g) g in
    subst (AllBefore q) (sym (take-suc es i ([], []) w) ∙ ap (λ n. take n es) (sym (add-one i))) up

pub reached : (q : List ℕ) (es : List Pair) (i : ℕ) → T (is_sorted bytes_cmp es) → i < length es → bytes_cmp q (get_or es i ([], [])).0 ≡ Equal → IsFound q es i
reached q es i h w e = record { within = w; before = all_before_equal q (take i es) _ _ (sorted_cut es i w h) e; equal = e }

pub starts_after : (q : List ℕ) (es : List Pair) (i : ℕ) → i < length es → bytes_cmp q (get_or es i ([], [])).0 ≡ Less → StartsAfter q (drop i es)
starts_after q es i w e = subst (StartsAfter q) (sym (drop-cons es i ([], []) w)) e

-- the variable of a variable that was read
pub pair_read : (area : List ℕ) (variables : List Variable) (i : ℕ) (x : Variable) → i < length variables → x ≡ get_or variables i x → get_or (pairs area variables) i ([], []) ≡ pair_of area x
pair_read area variables i x h e = get_or-map (pair_of area) variables i x ([], []) h ∙ ap (pair_of area) (sym e)

-- what the code compared
pub compared : (q n area : List ℕ) (x : Variable) (r o : Ordering) → n ≡ (pair_of area x).0 → r ≡ bytes_cmp q n → r ≡ o → bytes_cmp q (pair_of area x).0 ≡ o
compared q n area x r o is e f = ap (bytes_cmp q) (sym is) ∙ sym e ∙ f

pub compared_at : (q n area : List ℕ) (variables : List Variable) (i : ℕ) (x : Variable) (r o : Ordering) → i < length variables → x ≡ get_or variables i x → n ≡ (pair_of area x).0 → r ≡ bytes_cmp q n → r ≡ o → bytes_cmp q (get_or (pairs area variables) i ([], [])).0 ≡ o
compared_at q n area variables i x r o h at is e f = ap (λ (p : Pair). bytes_cmp q p.0) (pair_read area variables i x h at) ∙ compared q n area x r o is e f

pub within_pairs : (area : List ℕ) (variables : List Variable) (i : ℕ) → i < length variables → i < length (pairs area variables)
within_pairs area variables i h = omega (arith, length-map variables (pair_of area))

-- parts of sorted lists are sorted
below_front : (n : List ℕ) (xs ys : List Pair) → T (below_all bytes_cmp n (xs ++ ys)) → T (below_all bytes_cmp n xs)
below_front n [] ys h = tt
below_front n (x ∷ xs) ys h = and_both _ _ (and_left _ _ h) (below_front n xs ys (and_right _ _ h))

sorted_front : (xs ys : List Pair) → T (is_sorted bytes_cmp (xs ++ ys)) → T (is_sorted bytes_cmp xs)
sorted_front [] ys h = tt
sorted_front (x ∷ xs) ys h = and_both _ _ (below_front x.0 xs ys (and_left _ _ h)) (sorted_front xs ys (and_right _ _ h))

pairs_parts : (area : List ℕ) (a m b : List Variable) → pairs area (a ++ (m ++ b)) ≡ pairs area a ++ (pairs area m ++ pairs area b)
pairs_parts area a m b = map-append (pair_of area) a (m ++ b) ∙ ap (λ r. pairs area a ++ r) (map-append (pair_of area) m b)

-- the variables, cut at a run that was read
pub run_cut : (runs : List Run) (r : ℕ) (x : Run) → r < length runs → x ≡ get_or runs r x → flat runs ≡ flat (take r runs) ++ (x.items ++ flat (drop (suc r) runs))
run_cut runs r x h e = flat_cut runs r h ∙ ap (λ m. flat (take r runs) ++ (m ++ flat (drop (suc r) runs))) (variables_read runs r x h e)

sorted_at : (area : List ℕ) (runs : List Run) (r : ℕ) (x : Run) → AreInOrder area runs → r < length runs → x ≡ get_or runs r x → T (is_sorted bytes_cmp (pairs area (flat (take r runs)) ++ (pairs area x.items ++ pairs area (flat (drop (suc r) runs)))))
sorted_at area runs r x l h e =
    subst (λ xs. T (is_sorted bytes_cmp xs)) (ap (pairs area) (run_cut runs r x h e) ∙ pairs_parts area (flat (take r runs)) x.items (flat (drop (suc r) runs))) l.sorted

pub run_sorted : (area : List ℕ) (runs : List Run) (r : ℕ) (x : Run) → AreInOrder area runs → r < length runs → x ≡ get_or runs r x → T (is_sorted bytes_cmp (pairs area x.items))
run_sorted area runs r x l h e = sorted_front (pairs area x.items) _ (sorted_rest (pairs area (flat (take r runs))) _ (sorted_at area runs r x l h e))

pub All_back : (P : Variable → Type 0) (a b : List Variable) → All P (a ++ b) → All P b
All_back P [] b h = h
All_back P (x ∷ a) b h = All_back P a b (λ k d w. h (suc k) d (omega arith))

pub All_front : (P : Variable → Type 0) (a b : List Variable) → All P (a ++ b) → All P a
All_front P [] b h = λ k d w. absurd (omega arith)
All_front P (x ∷ a) b h = All-cons P x a (h 0 x (omega arith)) (All_front P a b (λ k d w. h (suc k) d (omega arith)))

pub run_placed : (area : List ℕ) (runs : List Run) (r : ℕ) (x : Run) → AreInOrder area runs → r < length runs → x ≡ get_or runs r x → All (LiesIn area) x.items
run_placed area runs r x l h e =
    All_front (LiesIn area) x.items _ (All_back (LiesIn area) (flat (take r runs)) _ (subst (All (LiesIn area)) (run_cut runs r x h e) l.lies))

pub run_filled : (area : List ℕ) (runs : List Run) (r : ℕ) (x : Run) → AreInOrder area runs → r < length runs → x ≡ get_or runs r x → 0 < vec_len x
run_filled area runs r x l h e = subst IsFilled (sym e) (l.filled r x h)

pub variable_placed : (area : List ℕ) (variables : List Variable) (i : ℕ) (x : Variable) → All (LiesIn area) variables → i < length variables → x ≡ get_or variables i x → LiesIn area x
variable_placed area variables i x a h e = subst (LiesIn area) (sym e) (a i x h)

-- the first variable of a run against a name
starts_cons : (q area : List ℕ) (items b : List Variable) (y : Variable) → 0 < length items → y ≡ get_or items 0 y → bytes_cmp q (pair_of area y).0 ≡ Less → StartsAfter q (pairs area (items ++ b))
starts_cons q area [] b y h e c = absurd (omega arith)
starts_cons q area (z ∷ zs) b y h e c = ap (λ v. bytes_cmp q (pair_of area v).0) (sym e) ∙ c

pub starts_run : (q area : List ℕ) (runs : List Run) (r : ℕ) (x : Run) (y : Variable) → AreInOrder area runs → r < length runs → x ≡ get_or runs r x → y ≡ get_or x.items 0 y → bytes_cmp q (pair_of area y).0 ≡ Less → StartsAfter q (listed area (drop r runs))
starts_run q area runs r x y l h e f c =
    let filled = run_filled area runs r x l h e in
    let cons : drop r runs ≡ x ∷ drop (suc r) runs = drop-cons runs r x h ∙ ap (λ v. v ∷ drop (suc r) runs) (sym e) in
    subst (λ rs. StartsAfter q (listed area rs)) (sym cons) (starts_cons q area x.items (flat (drop (suc r) runs)) y (omega (arith, long x)) f c)

before_greater : (q area : List ℕ) (items : List Variable) (a b : List Pair) (y : Variable) → 0 < length items → y ≡ get_or items 0 y → T (is_sorted bytes_cmp (a ++ (pairs area items ++ b))) → bytes_cmp q (pair_of area y).0 ≡ Greater → AllBefore q a
before_greater q area [] a b y h e s c = absurd (omega arith)
before_greater q area (z ∷ zs) a b y h e s c = all_before_greater q a (pair_of area z) (pairs area zs ++ b) s (ap (λ v. bytes_cmp q (pair_of area v).0) (sym e) ∙ c)

before_equal : (q area : List ℕ) (items : List Variable) (a b : List Pair) (y : Variable) → 0 < length items → y ≡ get_or items 0 y → T (is_sorted bytes_cmp (a ++ (pairs area items ++ b))) → bytes_cmp q (pair_of area y).0 ≡ Equal → AllBefore q a
before_equal q area [] a b y h e s c = absurd (omega arith)
before_equal q area (z ∷ zs) a b y h e s c = all_before_equal q a (pair_of area z) (pairs area zs ++ b) s (ap (λ v. bytes_cmp q (pair_of area v).0) (sym e) ∙ c)

pub run_greater : (q area : List ℕ) (runs : List Run) (r : ℕ) (x : Run) (y : Variable) → AreInOrder area runs → r < length runs → x ≡ get_or runs r x → y ≡ get_or x.items 0 y → bytes_cmp q (pair_of area y).0 ≡ Greater → AllBefore q (listed area (take (r + 1 - 1) runs))
run_greater q area runs r x y l h e f c =
    let filled = run_filled area runs r x l h e in
    let same : r ≡ r + 1 - 1 = omega arith in
    subst (λ n. AllBefore q (listed area (take n runs))) same (before_greater q area x.items _ _ y (omega (arith, long x)) f (sorted_at area runs r x l h e) c)

pub run_equal : (q area : List ℕ) (runs : List Run) (r : ℕ) (x : Run) (y : Variable) → AreInOrder area runs → r < length runs → x ≡ get_or runs r x → y ≡ get_or x.items 0 y → bytes_cmp q (pair_of area y).0 ≡ Equal → AllBefore q (listed area (take (r + 1 - 1) runs))
run_equal q area runs r x y l h e f c =
    let filled = run_filled area runs r x l h e in
    let same : r ≡ r + 1 - 1 = omega arith in
    subst (λ n. AllBefore q (listed area (take n runs))) same (before_equal q area x.items _ _ y (omega (arith, long x)) f (sorted_at area runs r x l h e) c)

-- where the search over runs ends
pub all_after : (q area : List ℕ) (runs : List Run) (high : ℕ) → high ≡ 0 → StartsAfter q (listed area (drop high runs)) → StartsAfter q (listed area runs)
all_after q area runs high e s = subst (λ n. StartsAfter q (listed area (drop n runs))) e s

pub run_ends : (q area : List ℕ) (runs : List Run) (low high : ℕ) → 0 < low → low ≡ high → high ≤ length runs → AllBefore q (listed area (take (low - 1) runs)) → StartsAfter q (listed area (drop high runs)) → IsRunFor q area runs (low - 1)
run_ends q area runs low high p e w b a =
    let up : high ≡ suc (low - 1) = omega arith in
    record { within = omega arith; before = b; after = subst (λ n. StartsAfter q (listed area (drop n runs))) up a }

-- an index in a run is a position
gap_all : (runs : List Run) → flat runs ≡ drop 0 (variables_at runs 0) ++ flat (drop 1 runs)
gap_all [] = refl
gap_all (x ∷ runs) = refl

pub gap_first : (q area : List ℕ) (runs : List Run) → StartsAfter q (listed area runs) → BelongsAt q area runs (record { run = 0; index = 0 })
gap_first q area runs s =
    record { index = omega arith; before = tt; after = subst (λ xs. StartsAfter q (pairs area xs)) (gap_all runs) s }

starts_append : (q : List ℕ) (a b : List Pair) → StartsAfter q a → StartsAfter q b → StartsAfter q (a ++ b)
starts_append q [] b s t = t
starts_append q (x ∷ a) b s t = s

before_position : (q area : List ℕ) (runs : List Run) (r k : ℕ) (x : Run) → IsRunFor q area runs r → variables_at runs r ≡ x.items → AllBefore q (take k (pairs area x.items)) → AllBefore q (pairs area (flat (take r runs) ++ take k (variables_at runs r)))
before_position q area runs r k x o e b =
    subst (AllBefore q) (sym (map-append (pair_of area) (flat (take r runs)) (take k (variables_at runs r))))
    (all_before_append q (listed area (take r runs)) (pairs area (take k (variables_at runs r))) o.before
    (subst (AllBefore q) (take-map (pair_of area) k x.items ∙ ap (λ m. pairs area (take k m)) (sym e)) b))

pub found_position : (q area : List ℕ) (runs : List Run) (r k : ℕ) (x : Run) → IsRunFor q area runs r → x ≡ get_or runs r x → IsFound q (pairs area x.items) k → IsPositionOf q area runs (record { run = r; index = k })
found_position q area runs r k x o at f =
    let e : variables_at runs r ≡ x.items = variables_read runs r x o.within at in
    let within : k < length x.items = omega (arith, f.within, length-map x.items (pair_of area)) in
    record {
      run = o.within;
      index = omega (arith, ap length e);
      before = before_position q area runs r k x o e f.before;
      equal = λ y is. ap (λ (p : Pair). bytes_cmp q p.0) (sym (pair_read area x.items k y within (is ∙ ap (λ m. get_or m k y) e))) ∙ f.equal;
    }

pub gap_position : (q area : List ℕ) (runs : List Run) (r k : ℕ) (x : Run) → IsRunFor q area runs r → x ≡ get_or runs r x → IsGap q (pairs area x.items) k → BelongsAt q area runs (record { run = r; index = k })
gap_position q area runs r k x o at g =
    let e : variables_at runs r ≡ x.items = variables_read runs r x o.within at in
    record {
      index = omega (arith, g.within, ap length e, length-map x.items (pair_of area));
      before = before_position q area runs r k x o e g.before;
      after = subst (StartsAfter q) (sym (map-append (pair_of area) (drop k (variables_at runs r)) (flat (drop (suc r) runs))))
          (starts_append q (pairs area (drop k (variables_at runs r))) _ (subst (StartsAfter q) (drop-map (pair_of area) k x.items ∙ ap (λ m. pairs area (drop k m)) (sym e)) g.after) o.after);
    }

-- what holds of a list's elements holds of those after its first
pub All_rest : {X : Type 0} (P : X → Type 0) (all more : List X) (x : X) → all ≡ x ∷ more → All P all → All P more
All_rest P all more x e h =
    let g = subst (All P) e h in
    λ k d w. g (suc k) d (omega arith)
