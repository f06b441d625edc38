-- Names in ascending order: those that begin so are one range of them.
use Rattle.std.proofs.Common.{◌≡◌, ℕ, zero, suc, ◌<◌, ◌≤◌, ◌&&◌, ◌-◌, Bool, true, false, not, T, List, [], ◌∷◌, ◌++◌, map, take, take_all, drop, length, length-drop, append-nil, Bor, refl, sym, ap, ◌∙◌, arith, filter, nat_eq, if◌then◌else◌}
use Rattle.std.specs.Prelude.{slice_index_or}
use Rattle.std.specs.List.{list_all, starts_with}
use Rattle.std.specs.List.Sorted.{IsPartitionPoint, IsPartitionedBy}
use Rattle.std.specs.Ordering.{is_lt, nat_cmp, ordering_then}
use Rattle.std.specs.declared.cmp.Ordering.{Ordering}
use Rattle.std.specs.declared.cmp.Ordering.TheVariants.{Less, Equal, Greater}
use Rattle.std.specs.Cmp.{nat_cmp_is}
use Rattle.std.specs.FinMap.{entries, entries_sorted, nat_cmp-IsAntisymmetric}
use Rattle.std.specs.FinMap.Entries.{below_all, is_sorted}
use Rattle.std.proofs.lemmas.Bool.{eq-eqb, eqb-true, false≢true}
use Rattle.std.proofs.lemmas.Cmp.{nat_list_cmp_total}
use Rattle.envimg_core.proofs.Facts.{left_true, right_true, and_left, and_right}
use Rattle.envimg_core.specs.Environment.{Environment, Pair, bytes_cmp}
use Rattle.fw_check.specs.Following.{names_of, names_with}
use Rattle.fw_check.specs.NameSets.{is_ascending, is_before, is_before_all}

holds : (b : Bool) → T b → b ≡ true
holds true h = refl
holds false h = absurd h

less-true : (o : Ordering) → is_lt o ≡ true → o ≡ Less
less-true Less e = refl
less-true Equal e = absurd (false≢true e)
less-true Greater e = absurd (false≢true e)

same-cmp : (x y : ℕ) → x ≡ y → nat_cmp x y ≡ Equal
same-cmp x y e = sym (nat_cmp_is x y Equal e)

-- ---- the names of an environment are in order

before-entries : (name : List ℕ) (es : List Pair) → T (below_all bytes_cmp name es) → is_before_all name (map (λ e. e.0) es) ≡ true
before-entries name [] h = refl
before-entries name (e ∷ es) h =
    ap (λ (b : Bool). b && is_before_all name (map (λ e. e.0) es)) (holds _ (and_left _ _ h)) ∙ before-entries name es (and_right _ _ h)

pub entries-ascend : (es : List Pair) → T (is_sorted bytes_cmp es) → is_ascending (map (λ e. e.0) es) ≡ true
entries-ascend [] h = refl
entries-ascend (e ∷ es) h =
    ap (λ (b : Bool). b && is_ascending (map (λ e. e.0) es)) (before-entries e.0 es (and_left _ _ h)) ∙ entries-ascend es (and_right _ _ h)

-- ---- a beginning, and the order

-- a name that begins so doesn't come before the beginning
begun-not-before : (front name : List ℕ) → starts_with nat_eq name front ≡ true → is_before front name ≡ false
begun-not-before [] [] e = refl
begun-not-before [] (x ∷ xs) e = refl
begun-not-before (f ∷ fs) [] e = absurd (false≢true e)
begun-not-before (f ∷ fs) (x ∷ xs) e =
    ap (λ (o : Ordering). is_lt (ordering_then o (bytes_cmp xs fs))) (same-cmp x f (sym (eqb-true f x (left_true _ _ e))))
    ∙ begun-not-before fs xs (right_true (nat_eq f x) _ e)

-- between a beginning and a name that begins so there are only such names
between-by : (f h g : ℕ) (fs hs gs : List ℕ) (o : Ordering) → nat_cmp h f ≡ o → not (is_lt (ordering_then o (bytes_cmp hs fs))) ≡ true → is_lt (ordering_then o (bytes_cmp hs gs)) ≡ true →
    (not (is_before fs hs) ≡ true → is_before gs hs ≡ true → starts_with nat_eq hs fs ≡ true) → starts_with nat_eq (h ∷ hs) (f ∷ fs) ≡ true
between-by f h g fs hs gs Less e a b rest = absurd (false≢true a)
between-by f h g fs hs gs Equal e a b rest = ap (λ (t : Bool). t && starts_with nat_eq hs fs) (eq-eqb f h (sym (nat_cmp-IsAntisymmetric h f e))) ∙ rest a b
between-by f h g fs hs gs Greater e a b rest = absurd (false≢true b)

between : (front x y : List ℕ) → not (is_before front x) ≡ true → is_before y x ≡ true → starts_with nat_eq y front ≡ true → starts_with nat_eq x front ≡ true
between [] x y a b c = refl
between (f ∷ fs) [] y a b c = absurd (false≢true a)
between (f ∷ fs) (h ∷ hs) [] a b c = absurd (false≢true c)
between (f ∷ fs) (h ∷ hs) (g ∷ gs) a b c =
    let same = eqb-true f g (left_true _ _ c) in
    between-by f h g fs hs gs (nat_cmp h f) refl a (ap (λ (n : ℕ). is_lt (ordering_then (nat_cmp h n) (bytes_cmp hs gs))) same ∙ b)
    (λ d e. between fs hs gs d e (right_true (nat_eq f g) _ c))

-- ---- a test that no later element of an ascending list passes after one that fails it

module _ {X : Type 0} (key : X → List ℕ) (q p : X → Bool) (closed : (x y : X) → q x ≡ true → is_before (key y) (key x) ≡ true → p y ≡ true → p x ≡ true) where
  first-parted : (x : X) (xs : List X) → q x ≡ true → is_before_all (key x) (map key xs) ≡ true → (j : ℕ) (d : X) → j < length xs → p (slice_index_or xs j d) ≡ true → p x ≡ true
  first-parted x [] h b j d l e = absurd (omega (arith, l))
  first-parted x (y ∷ ys) h b zero d l e = closed x y h (left_true _ _ b) e
  first-parted x (y ∷ ys) h b (suc j) d l e = first-parted x ys h (right_true (is_before (key y) (key x)) _ b) j d (omega (arith, l)) e

  pub parted : (xs : List X) → is_ascending (map key xs) ≡ true → list_all q xs ≡ true → IsPartitionedBy p xs
  parted [] up all i j d l m e = absurd (omega (arith, m))
  parted (x ∷ xs) up all zero zero d l m e = e
  parted (x ∷ xs) up all zero (suc j) d l m e = first-parted x xs (left_true _ _ all) (left_true _ _ up) j d (omega (arith, m)) e
  parted (x ∷ xs) up all (suc i) zero d l m e = absurd (omega (arith, l))
  parted (x ∷ xs) up all (suc i) (suc j) d l m e =
      parted xs (right_true (is_before_all (key x) (map key xs)) _ up) (right_true (q x) _ all) i j d (omega (arith, l)) (omega (arith, m)) e

-- ---- what such a test leaves

module _ {X : Type 0} where
  pub point-take : (p : X → Bool) (xs : List X) (i : ℕ) → i ≤ length xs → IsPartitionPoint (λ x. p x ≡ true) (λ x. p x ≡ false) xs i → filter p xs ≡ take i xs
  point-take p [] zero l h = refl
  point-take p [] (suc i) l h = absurd (omega (arith, l))
  point-take p (x ∷ xs) zero l h =
      ap (λ (b : Bool). if b then x ∷ filter p xs else filter p xs) (h.1 0 x (omega arith) (omega arith))
      ∙ point-take p xs zero (omega arith) ((λ k d a b. absurd (omega (arith, b))), (λ k d a b. h.1 (suc k) d (omega arith) (omega (arith, b))))
  point-take p (x ∷ xs) (suc i) l h =
      ap (λ (b : Bool). if b then x ∷ filter p xs else filter p xs) (h.0 0 x (omega arith) (omega arith))
      ∙ ap (λ (ys : List X). x ∷ ys) (point-take p xs i (omega (arith, l)) ((λ k d a b. h.0 (suc k) d (omega arith) (omega (arith, b))), (λ k d a b. h.1 (suc k) d (omega (arith, a)) (omega (arith, b)))))

  pub point-drop : (p : X → Bool) (xs : List X) (i : ℕ) → i ≤ length xs → IsPartitionPoint (λ x. p x ≡ true) (λ x. p x ≡ false) xs i → drop i xs ≡ filter (λ x. not (p x)) xs
  point-drop p [] zero l h = refl
  point-drop p [] (suc i) l h = absurd (omega (arith, l))
  point-drop p (x ∷ xs) zero l h =
      ap (λ (ys : List X). x ∷ ys) (point-drop p xs zero (omega arith) ((λ k d a b. absurd (omega (arith, b))), (λ k d a b. h.1 (suc k) d (omega arith) (omega (arith, b)))))
      ∙ ap (λ (b : Bool). if not b then x ∷ filter (λ y. not (p y)) xs else filter (λ y. not (p y)) xs) (sym (h.1 0 x (omega arith) (omega arith)))
  point-drop p (x ∷ xs) (suc i) l h =
      point-drop p xs i (omega (arith, l)) ((λ k d a b. h.0 (suc k) d (omega arith) (omega (arith, b))), (λ k d a b. h.1 (suc k) d (omega (arith, a)) (omega (arith, b))))
      ∙ ap (λ (b : Bool). if not b then x ∷ filter (λ y. not (p y)) xs else filter (λ y. not (p y)) xs) (sym (h.0 0 x (omega arith) (omega arith)))

  one-in : (p q : X → Bool) (x : X) (xs : List X) (a b : Bool) → (b ≡ true → a ≡ true) → p x ≡ b → filter p (filter q xs) ≡ filter p xs →
      filter p (if a then x ∷ filter q xs else filter q xs) ≡ (if b then x ∷ filter p xs else filter p xs)
  one-in p q x xs true b h e rest = ap (λ (c : Bool). if c then x ∷ filter p (filter q xs) else filter p (filter q xs)) e ∙ ap (λ (ys : List X). if b then x ∷ ys else ys) rest
  one-in p q x xs false true h e rest = absurd (false≢true (h refl))
  one-in p q x xs false false h e rest = rest

  filter-in : (p q : X → Bool) → ((x : X) → p x ≡ true → q x ≡ true) → (xs : List X) → filter p (filter q xs) ≡ filter p xs
  filter-in p q h [] = refl
  filter-in p q h (x ∷ xs) = one-in p q x xs (q x) (p x) (h x) refl (filter-in p q h xs)

  one-mapped : {Y : Type 0} (f : X → Y) (b : Bool) (x : X) (xs : List X) → map f (if b then x ∷ xs else xs) ≡ (if b then f x ∷ map f xs else map f xs)
  one-mapped f true x xs = refl
  one-mapped f false x xs = refl

  filter-mapped : {Y : Type 0} (f : X → Y) (p : Y → Bool) (xs : List X) → map f (filter (λ x. p (f x)) xs) ≡ filter p (map f xs)
  filter-mapped f p [] = refl
  filter-mapped f p (x ∷ xs) =
      one-mapped f (p (f x)) x (filter (λ x. p (f x)) xs) ∙ ap (λ ys. if p (f x) then f x ∷ ys else ys) (filter-mapped f p xs)

  one-passes : (q : X → Bool) (x : X) (xs : List X) (b : Bool) → q x ≡ b → list_all q xs ≡ true → list_all q (if b then x ∷ xs else xs) ≡ true
  one-passes q x xs true e rest = ap (λ (c : Bool). c && list_all q xs) e ∙ rest
  one-passes q x xs false e rest = rest

  pub filter-passes : (q : X → Bool) (xs : List X) → list_all q (filter q xs) ≡ true
  filter-passes q [] = refl
  filter-passes q (x ∷ xs) = one-passes q x (filter q xs) (q x) refl (filter-passes q xs)

  pub all-true : (xs : List X) → list_all (λ x. true) xs ≡ true
  all-true [] = refl
  all-true (x ∷ xs) = all-true xs

  pub drop-ascends : (key : X → List ℕ) (i : ℕ) (xs : List X) → is_ascending (map key xs) ≡ true → is_ascending (map key (drop i xs)) ≡ true
  drop-ascends key zero xs up = up
  drop-ascends key (suc i) [] up = up
  drop-ascends key (suc i) (x ∷ xs) up = drop-ascends key i xs (right_true (is_before_all (key x) (map key xs)) _ up)

-- ---- names

abbrev pub Name : Type 0
Name = Bor (List ℕ)

-- those before a text come first
pub before-parted : (text : List ℕ) (names : List Name) → is_ascending (map (λ n. n.now) names) ≡ true → IsPartitionedBy (λ (n : Name). is_before text n.now) names
before-parted text names up =
    parted (λ (n : Name). n.now) (λ n. true) (λ n. is_before text n.now)
    (λ x y h b e. ap is_lt (nat_list_cmp_total.trans x.now y.now text (less-true _ b) (less-true _ e))) names up (all-true names)

-- among those that don't, those that begin so come first
pub begun-parted : (front : List ℕ) (names rest : List Name) → rest ≡ filter (λ n. not (is_before front n.now)) names → is_ascending (map (λ n. n.now) rest) ≡ true → IsPartitionedBy (λ (n : Name). starts_with nat_eq n.now front) rest
begun-parted front names rest is up =
    parted (λ (n : Name). n.now) (λ n. not (is_before front n.now)) (λ n. starts_with nat_eq n.now front)
    (λ x y h b e. between front x.now y.now h b e) rest up
    (ap (list_all (λ (n : Name). not (is_before front n.now))) is ∙ filter-passes (λ (n : Name). not (is_before front n.now)) names)

pub begun-names : (front : List ℕ) (names rest : List Name) (count : ℕ) → rest ≡ filter (λ n. not (is_before front n.now)) names → count ≤ length rest →
    IsPartitionPoint (λ (n : Name). starts_with nat_eq n.now front ≡ true) (λ n. starts_with nat_eq n.now front ≡ false) rest count →
    map (λ n. n.now) (take count rest) ≡ names_with front (map (λ n. n.now) names)
begun-names front names rest count is l point =
    let begins = λ (n : Name). starts_with nat_eq n.now front in
    ap (map (λ (n : Name). n.now)) (sym (point-take begins rest count l point) ∙ ap (filter begins) is
    ∙ filter-in begins (λ n. not (is_before front n.now)) (λ n e. ap not (begun-not-before front n.now e)) names)
    ∙ filter-mapped (λ (n : Name). n.now) (λ n. starts_with nat_eq n front) names

pub range-rest : {X : Type 0} (n : ℕ) (xs : List X) → take (length xs - n) (drop n xs) ≡ drop n xs
range-rest n xs = take_all _ _ (omega (arith, length-drop n xs))

pub names-ascend : (env : Environment) (names : List Name) (left : List Pair) → left ≡ [] → map (λ n. n.now) names ++ map (λ p. p.0) left ≡ names_of env → is_ascending (map (λ n. n.now) names) ≡ true
names-ascend env names left none so_far =
    ap is_ascending (sym (append-nil (map (λ (n : Name). n.now) names)) ∙ ap (λ (es : List Pair). map (λ (n : Name). n.now) names ++ map (λ p. p.0) es) (sym none) ∙ so_far)
    ∙ entries-ascend (entries env) (entries_sorted env)
