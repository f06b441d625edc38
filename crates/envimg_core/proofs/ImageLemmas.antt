-- An image reads back.
use Rattle.std.proofs.Common.{◌≡◌, ℕ, zero, suc, ◌+◌, ◌-◌, ◌*◌, ◌/◌, ◌%◌, ◌^◌, ◌<◌, ◌≤◌, ◌++◌, Bool, true, false, not, cond, List, [], ◌∷◌, map, filter, fold, length, take, drop, get_or, replicate, Some, sum_by, T, refl, sym, ap, ◌∙◌, subst, arith, eq-eqb, append_assoc, append-nil, length-append, lit<}
use Rattle.std.proofs.Math.Nat.{pow-suc}
use Rattle.std.proofs.Math.Seq.{take-append_seam, drop-append-add, get_or-append_seam}
use Rattle.std.proofs.Math.ListN.{get_or-append}
use Rattle.std.proofs.lemmas.List.{length-map, nil_from_length}
use Rattle.std.proofs.lemmas.List.Elements.{All-from_get_or, All-head, All-tail}
use Rattle.std.specs.Prelude.{◌==◌, ◌||◌}
use Rattle.std.specs.List.{list_any, All, take_while, position_or_len, before_first, after_first}
use Rattle.std.specs.declared.cmp.Ordering.TheVariants.{Greater}
use Rattle.std.specs.Ordering.{is_lt, ordering_reverse}
use Rattle.std.specs.FinMap as env
use Rattle.std.specs.FinMap.Entries.{put, is_sorted, below_all, by_order}
use Rattle.std.specs.Cmp.Lexicographic.{nat_list_cmp_total}
use Rattle.std.proofs.lemmas.Bool.{or_parts}
use Rattle.std.proofs.lemmas.List.{length-replicate}
use Rattle.std.proofs.lemmas.List.Folds.{list_any-append}
use Rattle.std.proofs.lemmas.List.Splits.{slice_split_at}
use Rattle.std.proofs.lemmas.List.Sums.{sum_by-cons, take_while-cons, position_or_len_is}
use Rattle.envimg_core.specs.Checksum.{add, number, polynomial, divide, bits, dividend, checksum}
use Rattle.envimg_core.specs.Environment.{Environment, Pair, IsVariable, bytes_cmp, pair_size, used, is_name, is_zero, is_equals, is_empty}
use Rattle.envimg_core.specs.Geometry.{Shape, IsSize, head, area_of}
use Rattle.envimg_core.specs.Order.{stored_checksum}
use Rattle.envimg_core.specs.Image.{stored_pair, stored_pairs, filled_area, framed}
use Rattle.envimg_core.specs.Laws.{AreVariables, shown_flag, ReadsBack}
use Rattle.envimg_core.specs.Pieces.{but_last, ended_pieces, is_terminated, Entry, entry_of, value_of, has_name, entries_of, after_entry, vars_of}
use Rattle.envimg_core.specs.State.{state_of, flag_of}
use Rattle.envimg_core.specs.declared.geometry.Layout.{Layout}
use Rattle.envimg_core.specs.declared.geometry.Layout.TheVariants.{Single, Redundant}
use Rattle.envimg_core.specs.declared.geometry.Order.{Order}
use Rattle.envimg_core.specs.declared.geometry.Order.TheVariants.{Little, Big}
use Rattle.envimg_core.specs.declared.state.CopyState.{CopyState}
use Rattle.envimg_core.specs.declared.state.CopyState.TheVariants.{Good, BadLength, BadCrc, Unterminated}
use Rattle.envimg_core.proofs.EntryLemmas.{split_cons}
use Rattle.envimg_core.proofs.Facts.{and_left, and_right, is_less, not_or}

-- ---- inserting entries in ascending order gives their map

abbrev pub valued : Pair → Entry
valued p = (p.0, Some p.1)

-- the last key is above all others, so its entry goes to the end
put_last : (k v : List ℕ) (xs ys : List Pair) → T (is_sorted bytes_cmp (xs ++ (k, v) ∷ ys)) → put bytes_cmp k v xs ≡ xs ++ (k, v) ∷ []
put_last k v [] ys h = refl
put_last k v (x ∷ xs) ys h =
    let above : bytes_cmp k x.0 ≡ Greater = nat_list_cmp_total.antisymm k x.0 ∙ ap ordering_reverse (is_less (bytes_cmp x.0 k) (below_there x.0 xs (and_left _ _ h))) in
    ap (λ o. by_order o ((k, v) ∷ x ∷ xs) ((x.0, v) ∷ xs) (x ∷ put bytes_cmp k v xs)) above
    ∙ ap (λ zs. x ∷ zs) (put_last k v xs ys (and_right _ _ h))
  where
    below_there : (q : List ℕ) (zs : List Pair) → T (below_all bytes_cmp q (zs ++ (k, v) ∷ ys)) → T (is_lt (bytes_cmp q k))
    below_there q [] b = and_left (is_lt (bytes_cmp q k)) (below_all bytes_cmp q ys) b
    below_there q (z ∷ zs) b = below_there q zs (and_right (is_lt (bytes_cmp q z.0)) (below_all bytes_cmp q (zs ++ (k, v) ∷ ys)) b)

inserted : (es : List Pair) (m : Environment) → T (is_sorted bytes_cmp (env.entries m ++ es)) → env.entries (fold after_entry m (map valued es)) ≡ env.entries m ++ es
inserted [] m h = sym (append-nil (env.entries m))
inserted (e ∷ es) m h =
    let grown : env.entries (env.insert m e.0 e.1) ≡ env.entries m ++ e ∷ [] = env.entries-insert nat_list_cmp_total m e.0 e.1 ∙ put_last e.0 e.1 (env.entries m) es h in
    let joined : env.entries (env.insert m e.0 e.1) ++ es ≡ env.entries m ++ e ∷ es = ap (λ xs. xs ++ es) grown ∙ append_assoc (env.entries m) (e ∷ []) es in
    inserted es (env.insert m e.0 e.1) (subst (λ xs. T (is_sorted bytes_cmp xs)) (sym joined) h) ∙ joined

pub empty_entries : env.entries (env.empty {X = List ℕ} {R = bytes_cmp}) ≡ []
empty_entries = nil_from_length (env.entries (env.empty {X = List ℕ} {R = bytes_cmp})) (sym (env.len-entries (env.empty {X = List ℕ} {R = bytes_cmp})) ∙ env.len-empty bytes_cmp (List ℕ))

pub entries_again : (m : Environment) → vars_of (map valued (env.entries m)) ≡ m
entries_again m =
    let sorted : T (is_sorted bytes_cmp (env.entries (env.empty {X = List ℕ} {R = bytes_cmp}) ++ env.entries m)) = subst (λ xs. T (is_sorted bytes_cmp (xs ++ env.entries m))) (sym empty_entries) (env.entries_sorted m) in
    env.same_entries_map _ m (inserted (env.entries m) env.empty sorted ∙ ap (λ xs. xs ++ env.entries m) empty_entries)

-- ---- the entries of a stored list

none_at : (p : ℕ → Bool) (xs : List ℕ) (k : ℕ) → list_any p xs ≡ false → k < length xs → p (get_or xs k 0) ≡ false
none_at p [] k h l = absurd (omega arith)
none_at p (x ∷ xs) zero h l = (or_parts (p x) (list_any p xs) h).0
none_at p (x ∷ xs) (suc k) h l = none_at p xs k ((or_parts (p x) (list_any p xs) h).1) (omega arith)

no_byte : (p : ℕ → Bool) (xs : List ℕ) → list_any p xs ≡ false → All (λ x. p x ≡ false) xs
no_byte p xs h = All-from_get_or (λ x. p x ≡ false) xs 0 (λ k l. none_at p xs k h l)

any_either : (p q : ℕ → Bool) (xs : List ℕ) → list_any (λ b. p b || q b) xs ≡ false → (list_any p xs ≡ false) × (list_any q xs ≡ false)
any_either p q [] h = (refl, refl)
any_either p q (x ∷ xs) h =
    let parts = or_parts (p x || q x) (list_any (λ b. p b || q b) xs) h in
    let here = or_parts (p x) (q x) parts.0 in
    let there = any_either p q xs parts.1 in
    (ap (λ b. b || list_any p xs) here.0 ∙ there.0, ap (λ b. b || list_any q xs) here.1 ∙ there.1)

formed_name : (n : List ℕ) → is_name n ≡ true → (is_empty n ≡ false) × (list_any is_zero n ≡ false) × (list_any is_equals n ≡ false)
formed_name n h =
    let parts = not_or (is_empty n) (list_any (λ b. is_zero b || is_equals b) n) h in
    let bytes = any_either is_zero is_equals n parts.1 in
    (parts.0, bytes.0, bytes.1)

joined_free : (n v : List ℕ) → list_any is_zero n ≡ false → list_any is_zero v ≡ false → list_any is_zero (n ++ 61 ∷ v) ≡ false
joined_free n v h k = list_any-append is_zero n (61 ∷ v) ∙ ap (λ b. b || list_any is_zero v) h ∙ k

stored_first : (n v rest : List ℕ) → IsVariable (n, v) → ended_pieces (stored_pair (n, v) ++ rest) ≡ (n ++ 61 ∷ v) ∷ ended_pieces rest
stored_first n v rest h =
    let free : list_any is_zero (n ++ 61 ∷ v) ≡ false = joined_free n v ((formed_name n h.0).1) ((not_or (is_empty v) (list_any is_zero v) h.1).1) in
    let parts = split_cons rest in
    ap ended_pieces (append_assoc (n ++ 61 ∷ v) (0 ∷ []) rest)
    ∙ ap but_last (slice_split_at is_zero (n ++ 61 ∷ v) 0 rest (no_byte is_zero (n ++ 61 ∷ v) free) refl ∙ ap (λ qs. (n ++ 61 ∷ v) ∷ qs) parts.2)
    ∙ ap (λ qs. (n ++ 61 ∷ v) ∷ but_last qs) (sym parts.2)

name_place : (n v : List ℕ) → list_any is_equals n ≡ false → position_or_len is_equals (n ++ 61 ∷ v) ≡ length n
name_place n v h =
    position_or_len_is is_equals (n ++ 61 ∷ v) (length n) 0 (omega (arith, length-append n (61 ∷ v)))
    (λ k l. ap is_equals (get_or-append n (61 ∷ v) 0 k l) ∙ none_at is_equals n k h l)
    (λ _. ap is_equals (get_or-append_seam n 61 v 0))

value_some : (v : List ℕ) → is_empty v ≡ false → value_of v ≡ Some v
value_some [] h = cc
value_some (b ∷ v) h = refl

joined_entry : (n v : List ℕ) → IsVariable (n, v) → ◌≡◌ {A = Entry} (entry_of (n ++ 61 ∷ v)) (n, Some v)
joined_entry n v h =
    let place : position_or_len is_equals (n ++ 61 ∷ v) ≡ length n = name_place n v ((formed_name n h.0).2) in
    let name : before_first is_equals (n ++ 61 ∷ v) ≡ n = ap (λ (k : ℕ). take k (n ++ 61 ∷ v)) place ∙ take-append_seam n (61 ∷ v) in
    let value : value_of (after_first is_equals (n ++ 61 ∷ v)) ≡ Some v =
    ap value_of (ap (λ (k : ℕ). drop (k + 1) (n ++ 61 ∷ v)) place ∙ drop-append-add n (61 ∷ v) 1) ∙ value_some v ((not_or (is_empty v) (list_any is_zero v) h.1).0) in
    λ i. (name i, value i)

joined_full : (n v : List ℕ) → is_empty (n ++ 61 ∷ v) ≡ false
joined_full [] v = refl
joined_full (b ∷ n) v = refl

pub entries_stored : (ps : List Pair) (rest : List ℕ) → All IsVariable ps → entries_of (stored_pairs ps ++ 0 ∷ rest) ≡ map valued ps
unfolding entries_of
entries_stored [] rest h = ap (λ qs. filter has_name (map entry_of (take_while (λ q. not (is_empty q)) (but_last ([] ∷ qs))))) ((split_cons rest).2)
entries_stored ((n, v) ∷ ps) rest h =
    let first : IsVariable (n, v) = All-head IsVariable (n, v) ps h in
    let behind : List ℕ = stored_pairs ps ++ 0 ∷ rest in
    let named : has_name (n, Some v) ≡ true = ap not ((formed_name n first.0).0) in
    ap entries_of (append_assoc (stored_pair (n, v)) (stored_pairs ps) (0 ∷ rest))
    ∙ ap (λ qs. filter has_name (map entry_of (take_while (λ q. not (is_empty q)) qs))) (stored_first n v behind first)
    ∙ ap (λ qs. filter has_name (map entry_of qs)) (take_while-cons (λ q. not (is_empty q)) (n ++ 61 ∷ v) (ended_pieces behind)
    ∙ ap (λ b. cond (not b) ((n ++ 61 ∷ v) ∷ take_while (λ q. not (is_empty q)) (ended_pieces behind)) []) (joined_full n v))
    ∙ ap (λ e. filter has_name (e ∷ map entry_of (take_while (λ q. not (is_empty q)) (ended_pieces behind)))) (joined_entry n v first)
    ∙ ap (λ b. cond b ((n, Some v) ∷ entries_of behind) (entries_of behind)) named
    ∙ ap (λ es. (n, Some v) ∷ es) (entries_stored ps rest (All-tail IsVariable (n, v) ps h))

pub terminated_stored : (ps : List Pair) (rest : List ℕ) → All IsVariable ps → is_terminated (stored_pairs ps ++ 0 ∷ rest) ≡ true
terminated_stored [] rest h = ap (λ qs. list_any is_empty (but_last ([] ∷ qs))) ((split_cons rest).2)
terminated_stored ((n, v) ∷ ps) rest h =
    let behind : List ℕ = stored_pairs ps ++ 0 ∷ rest in
    ap is_terminated (append_assoc (stored_pair (n, v)) (stored_pairs ps) (0 ∷ rest))
    ∙ ap (list_any is_empty) (stored_first n v behind (All-head IsVariable (n, v) ps h))
    ∙ ap (λ b. b || list_any is_empty (ended_pieces behind)) (joined_full n v)
    ∙ terminated_stored ps rest (All-tail IsVariable (n, v) ps h)

-- ---- the checksum is a number of 32 bits

number_below : (bs : List Bool) → number bs < 2 ^ length bs
number_below [] = lit< tt
number_below (b ∷ bs) =
    let rest : number bs < 2 ^ length bs = number_below bs in
    let double : 2 ^ suc (length bs) ≡ 2 ^ length bs * 2 = pow-suc 2 (length bs) in
    let bit : cond b 1 0 < 2 = elim b as (λ d. cond d 1 0 < 2) [ true ↦ lit< tt | false ↦ lit< tt ] in
    omega arith

length-add_long : (xs ys : List Bool) → length ys ≤ length xs → length (add xs ys) ≡ length xs
length-add_long [] [] h = refl
length-add_long [] (y ∷ ys) h = absurd (omega arith)
length-add_long (x ∷ xs) [] h = refl
length-add_long (x ∷ xs) (y ∷ ys) h = ap suc (length-add_long xs ys (omega arith))

length-divide : (n : ℕ) (xs : List Bool) → n + 32 ≤ length xs → length (divide n xs) + n ≡ length xs
unfolding divide
length-divide zero xs h = omega arith
length-divide (suc n) [] h = absurd (omega arith)
length-divide (suc n) (true ∷ xs) h =
    let same : length (add xs polynomial) ≡ length xs = length-add_long xs polynomial (omega arith) in
    let rest : length (divide n (add xs polynomial)) + n ≡ length (add xs polynomial) = length-divide n (add xs polynomial) (omega arith) in
    omega arith
length-divide (suc n) (false ∷ xs) h =
    let rest : length (divide n xs) + n ≡ length xs = length-divide n xs (omega arith) in
    omega arith

pub checksum_below : (bs : List ℕ) → checksum bs < 2 ^ 32
unfolding checksum
checksum_below bs =
    let all : length (dividend bs) ≡ length (bits bs) + 32 =
    length-add_long (bits bs ++ replicate 32 false) (replicate 32 true) (omega (arith, length-append (bits bs) (replicate 32 false))) ∙ length-append (bits bs) (replicate 32 false) in
    let left : length (divide (length (bits bs)) (dividend bs)) + length (bits bs) ≡ length (dividend bs) = length-divide (length (bits bs)) (dividend bs) (omega arith) in
    let count : length (map not (divide (length (bits bs)) (dividend bs))) ≡ 32 = length-map (divide (length (bits bs)) (dividend bs)) not ∙ (let e : length (divide (length (bits bs)) (dividend bs)) ≡ 32 = omega arith in e) in
    subst (λ (k : ℕ). number (map not (divide (length (bits bs)) (dividend bs))) < 2 ^ k) count (number_below (map not (divide (length (bits bs)) (dividend bs))))

-- ---- the whole image

pub length-stored : (ps : List Pair) → length (stored_pairs ps) ≡ sum_by pair_size ps
length-stored [] = refl
length-stored ((n, v) ∷ ps) =
    length-append (stored_pair (n, v)) (stored_pairs ps)
    ∙ ap (λ (k : ℕ). k + length (stored_pairs ps)) (length-append (n ++ 61 ∷ v) (0 ∷ []) ∙ ap (λ (k : ℕ). k + 1) (length-append n (61 ∷ v)) ∙ (let e : length n + suc (length v) + 1 ≡ length n + length v + 2 = omega arith in e))
    ∙ ap (λ (k : ℕ). length n + length v + 2 + k) (length-stored ps)
    ∙ sym (sum_by-cons pair_size (n, v) ps)

length-filled : (room : ℕ) (xs : List ℕ) → length xs + 1 ≤ room → length (filled_area room xs) ≡ room
length-filled room xs h =
    length-append xs (0 ∷ replicate (room - (length xs + 1)) 0)
    ∙ ap (λ (k : ℕ). length xs + suc k) (length-replicate (room - (length xs + 1)) 0)
    ∙ (let e : length xs + suc (room - (length xs + 1)) ≡ room = omega arith in e)

low_first_back : (c : ℕ) → c < 2 ^ 32 → c % 256 + 256 * (c / 256 % 256 + 256 * (c / 65536 % 256 + 256 * (c / 16777216 % 256 + 256 * 0))) ≡ c
low_first_back c h = omega arith

high_first_back : (c : ℕ) → c < 2 ^ 32 → c / 16777216 % 256 * 16777216 + (c / 65536 % 256 * 65536 + (c / 256 % 256 * 256 + (c % 256 * 1 + 0))) ≡ c
high_first_back c h = omega arith

-- what a frame holds: the checksum, the flag and the area, and nothing more
record IsFramed (layout : Layout) (order : Order) (flag : ℕ) (area copy : List ℕ) : Type 0 where
  size : length copy ≡ head layout + length area
  sum : stored_checksum order copy ≡ checksum area
  shown : flag_of layout copy ≡ shown_flag layout flag
  behind : drop (head layout) copy ≡ area

frame_holds : (layout : Layout) (order : Order) (flag : ℕ) (area : List ℕ) → IsFramed layout order flag area (framed layout order flag area)
frame_holds Single Little flag area =
    record { size = omega arith; sum = low_first_back (checksum area) (checksum_below area); shown = refl; behind = refl }
frame_holds Single Big flag area =
    record { size = omega arith; sum = high_first_back (checksum area) (checksum_below area); shown = refl; behind = refl }
frame_holds Redundant Little flag area =
    record { size = omega arith; sum = low_first_back (checksum area) (checksum_below area); shown = refl; behind = refl }
frame_holds Redundant Big flag area =
    record { size = omega arith; sum = high_first_back (checksum area) (checksum_below area); shown = refl; behind = refl }

all_tests : (a b c : Bool) (s : CopyState) → a ≡ true → b ≡ true → c ≡ true → cond (not a) BadLength (cond (not b) BadCrc (cond (not c) Unterminated s)) ≡ s
all_tests true true true s p q r = refl
all_tests false b c s p q r = cc
all_tests true false c s p q r = cc
all_tests true true false s p q r = cc

framed_good : (shape : Shape) (flag : ℕ) (area : List ℕ) → head shape.layout + length area ≡ shape.size → is_terminated area ≡ true →
    state_of shape (framed shape.layout shape.order flag area) ≡ Good (shown_flag shape.layout flag)
framed_good shape flag area e t =
    let copy : List ℕ = framed shape.layout shape.order flag area in
    let holds = frame_holds shape.layout shape.order flag area in
    all_tests (length copy == shape.size) (stored_checksum shape.order copy == checksum (area_of shape copy)) (is_terminated (area_of shape copy)) (Good (flag_of shape.layout copy))
    (eq-eqb (length copy) shape.size (holds.size ∙ e))
    (eq-eqb (stored_checksum shape.order copy) (checksum (area_of shape copy)) (holds.sum ∙ ap checksum (sym holds.behind)))
    (ap is_terminated holds.behind ∙ t)
    ∙ ap Good holds.shown

pub image_back : (shape : Shape) (flag : ℕ) (m : Environment) → IsSize shape.layout shape.size → AreVariables m → used m ≤ shape.size - head shape.layout → ReadsBack shape flag m
image_back shape flag m fits formed small =
    let ps : List Pair = env.entries m in
    let room : ℕ = shape.size - head shape.layout in
    let area : List ℕ = filled_area room (stored_pairs ps) in
    let rest : List ℕ = replicate (room - (length (stored_pairs ps) + 1)) 0 in
    let stored : length (stored_pairs ps) ≡ sum_by pair_size ps = length-stored ps in
    let whole : length area ≡ room = length-filled room (stored_pairs ps) (omega arith) in
    let size : head shape.layout + length area ≡ shape.size = omega (arith, fits.0) in (
      framed_good shape flag area size (terminated_stored ps rest formed),
      ap (λ xs. vars_of (entries_of xs)) (frame_holds shape.layout shape.order flag area).behind ∙ ap vars_of (entries_stored ps rest formed) ∙ entries_again m,
    )
