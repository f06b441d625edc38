-- A data area cut at its first 0, and what its front is worth.
use Rattle.std.proofs.Common.{◌≡◌, ℕ, zero, suc, ◌+◌, ◌-◌, ◌<◌, Bool, true, false, not, cond, List, [], ◌∷◌, map, filter, length, get_or, take, drop, Option, Some, None, refl, sym, ap, ◌∙◌, subst, arith, length-drop}
use Rattle.std.specs.Prelude.{◌&&◌, ◌||◌, nat_eq}
use Rattle.std.specs.List.{slice_split, position_or_len, before_first, after_first, onto_first, list_any, take_while}
use Rattle.std.proofs.lemmas.List.Sums.{position_or_len_is, take_while-cons}
use Rattle.std.proofs.lemmas.List.Splits.{slice_split_first, slice_split_none, slice_split-cons_yes, slice_split-cons_no}
use Rattle.std.proofs.lemmas.List.Elements.{All-from_get_or}
use Rattle.std.proofs.lemmas.List.{take_all, take_rest, drop_all}
use Rattle.memchr.specs.Find.{IsFirstByte}
use Rattle.envimg_core.specs.Environment.{is_zero, is_equals, is_empty}
use Rattle.envimg_core.specs.Pieces.{but_last, ended_pieces, is_terminated, Entry, entry_of, value_of, has_name, entries_of}
use Rattle.envimg_core.specs.Steps.{YieldsEntry}
use Rattle.std.proofs.lemmas.Bool.{eqb-true, false≢true}
use Rattle.std.proofs.Math.Bool.{or-true}
use Rattle.std.specs.Cmp.Lexicographic.{pointwise}
use Rattle.envimg_core.proofs.Facts.{left_true, right_true, not_true}

-- where the first byte that passes is
pub found : (p : ℕ → Bool) (xs : List ℕ) (k : ℕ) → IsFirstByte p xs (Some k) → position_or_len p xs ≡ k
found p xs k h =
    position_or_len_is p xs k 0 (omega (arith, h.0.high)) (λ j l. not_true (p (get_or xs j 0)) (h.0.before j (omega arith) l)) (λ _. h.1)

pub missed : (p : ℕ → Bool) (xs : List ℕ) → IsFirstByte p xs None → position_or_len p xs ≡ length xs
missed p xs h =
    position_or_len_is p xs (length xs) 0 (omega arith) (λ j l. not_true (p (get_or xs j 0)) (h j (omega arith) l)) (λ l. absurd (omega arith))

pub split_cons : (xs : List ℕ) → (q : List ℕ) × (qs : List (List ℕ)) × (slice_split is_zero xs ≡ q ∷ qs)
split_cons [] = ([], [], refl)
split_cons (x ∷ xs) =
    let below = split_cons xs in
    elim (is_zero x) as (λ b. is_zero x ≡ b → (q : List ℕ) × (qs : List (List ℕ)) × (slice_split is_zero (x ∷ xs) ≡ q ∷ qs)) [
      | true ↦ λ e. ([], slice_split is_zero xs, slice_split-cons_yes is_zero x xs e)
      | false ↦ λ e. (x ∷ below.0, below.1, slice_split-cons_no is_zero x xs e ∙ ap (onto_first x) below.2)
    ] refl

-- the first piece, if the first 0 is at k
pub ended_first : (xs : List ℕ) (k : ℕ) → position_or_len is_zero xs ≡ k → k < length xs → ended_pieces xs ≡ take k xs ∷ ended_pieces (drop (k + 1) xs)
ended_first xs k e h =
    let rest = split_cons (drop (k + 1) xs) in
    let cut : slice_split is_zero xs ≡ take k xs ∷ slice_split is_zero (drop (k + 1) xs) =
    slice_split_first is_zero xs 0 (subst (λ (n : ℕ). n < length xs) (sym e) h) ∙ ap (λ (n : ℕ). take n xs ∷ slice_split is_zero (drop (n + 1) xs)) e in
    ap but_last (cut ∙ ap (λ ps. take k xs ∷ ps) rest.2)
    ∙ ap (λ ps. take k xs ∷ but_last ps) (sym rest.2)

ended_none : (xs : List ℕ) → IsFirstByte is_zero xs None → ended_pieces xs ≡ []
ended_none xs h =
    ap but_last (slice_split_none is_zero xs (All-from_get_or (λ x. is_zero x ≡ false) xs 0 (λ k l. not_true (is_zero (get_or xs k 0)) (h k (omega arith) l))))

front_empty : (k : ℕ) (xs : List ℕ) → 0 < k → k < length xs → is_empty (take k xs) ≡ false
front_empty zero xs h l = absurd (omega arith)
front_empty (suc k) [] h l = absurd (omega arith)
front_empty (suc k) (x ∷ xs) h l = refl

pub no_entries : (xs : List ℕ) → IsFirstByte is_zero xs None → entries_of xs ≡ []
unfolding entries_of
no_entries xs h = ap (λ ps. filter has_name (map entry_of (take_while (λ p. not (is_empty p)) ps))) (ended_none xs h)

pub entries_ended : (xs : List ℕ) → IsFirstByte is_zero xs (Some 0) → entries_of xs ≡ []
unfolding entries_of
entries_ended xs h =
    ap (λ ps. filter has_name (map entry_of (take_while (λ p. not (is_empty p)) ps))) (ended_first xs 0 (found is_zero xs 0 h) (omega (arith, h.0.high)))

pub next_entry_of : (xs : List ℕ) (k : ℕ) → 0 < k → IsFirstByte is_zero xs (Some k) →
    entries_of xs ≡ cond (has_name (entry_of (take k xs))) (entry_of (take k xs) ∷ entries_of (drop (k + 1) xs)) (entries_of (drop (k + 1) xs))
unfolding entries_of
next_entry_of xs k p h =
    let high : k < length xs = omega (arith, h.0.high) in
    ap (λ ps. filter has_name (map entry_of (take_while (λ q. not (is_empty q)) ps))) (ended_first xs k (found is_zero xs k h) high)
    ∙ ap (λ ps. filter has_name (map entry_of ps)) (take_while-cons (λ q. not (is_empty q)) (take k xs) (ended_pieces (drop (k + 1) xs))
    ∙ ap (λ b. cond (not b) (take k xs ∷ take_while (λ q. not (is_empty q)) (ended_pieces (drop (k + 1) xs))) []) (front_empty k xs p high))

pub piece_ahead : (xs : List ℕ) (k : ℕ) → 0 < k → IsFirstByte is_zero xs (Some k) → YieldsEntry xs (take k xs) (take (length xs - (k + 1)) (drop (k + 1) xs))
piece_ahead xs k p h =
    subst (YieldsEntry xs (take k xs)) (sym (take_rest xs (k + 1)))
    (next_entry_of xs k p h, let high : k < length xs = omega (arith, h.0.high) in omega (arith, length-drop (k + 1) xs))

-- ---- a piece cut at its first '='

pub cut_nowhere : (xs : List ℕ) → IsFirstByte is_equals xs None → ◌≡◌ {A = Entry} (xs, None) (entry_of xs)
cut_nowhere xs h =
    let e : position_or_len is_equals xs ≡ length xs = missed is_equals xs h in
    let name : take (position_or_len is_equals xs) xs ≡ xs = take_all (position_or_len is_equals xs) xs (omega arith) in
    let rest : drop (position_or_len is_equals xs + 1) xs ≡ [] = drop_all (position_or_len is_equals xs + 1) xs (omega arith) in
    λ i. (sym name i, ap value_of (sym rest) i)

pub cut_at : (xs : List ℕ) (k : ℕ) (v : Option (List ℕ)) → IsFirstByte is_equals xs (Some k) → v ≡ value_of (take (length xs - (k + 1)) (drop (k + 1) xs)) → ◌≡◌ {A = Entry} (take k xs, v) (entry_of xs)
cut_at xs k v h e =
    let place : position_or_len is_equals xs ≡ k = found is_equals xs k h in
    let name : take k xs ≡ before_first is_equals xs = ap (λ (n : ℕ). take n xs) (sym place) in
    let rest : v ≡ value_of (after_first is_equals xs) = e ∙ ap value_of (take_rest xs (k + 1) ∙ ap (λ (n : ℕ). drop (n + 1) xs) (sym place)) in
    λ i. (name i, rest i)

-- ---- whether the list is ended, piece by piece

pub not_ended : (xs : List ℕ) → IsFirstByte is_zero xs None → false ≡ is_terminated xs
not_ended xs h = sym (ap (list_any is_empty) (ended_none xs h))

pub ended_here : (xs : List ℕ) → IsFirstByte is_zero xs (Some 0) → true ≡ is_terminated xs
ended_here xs h = sym (ap (list_any is_empty) (ended_first xs 0 (found is_zero xs 0 h) (omega (arith, h.0.high))))

pub ended_further : (xs : List ℕ) (k : ℕ) → 0 < k → IsFirstByte is_zero xs (Some k) → is_terminated xs ≡ is_terminated (take (length xs - (k + 1)) (drop (k + 1) xs))
ended_further xs k p h =
    let high : k < length xs = omega (arith, h.0.high) in
    ap (list_any is_empty) (ended_first xs k (found is_zero xs k h) high)
    ∙ ap (λ b. b || is_terminated (drop (k + 1) xs)) (front_empty k xs p high)
    ∙ ap is_terminated (sym (take_rest xs (k + 1)))

-- ---- an area that ends in two zeros: of its pieces one after the first is empty

later_empty : List (List ℕ) → Bool
later_empty [] = false
later_empty (q ∷ qs) = list_any is_empty (but_last qs)

any_later : (q : List ℕ) (qs : List (List ℕ)) → list_any is_empty (but_last qs) ≡ true → list_any is_empty (but_last (q ∷ qs)) ≡ true
any_later q [] h = absurd (false≢true h)
any_later q (r ∷ rs) h = ap (λ b. is_empty q || b) h ∙ or-true (is_empty q)

last_two : (xs : List ℕ) → pointwise nat_eq (0 ∷ 0 ∷ []) (drop (length xs - 2) xs) ≡ true → later_empty (slice_split is_zero xs) ≡ true
unfolding later_empty
last_two [] h = absurd (false≢true h)
last_two (x ∷ []) h = absurd (false≢true (right_true (nat_eq 0 x) false h))
last_two (x ∷ y ∷ []) h =
    let a : 0 ≡ x = eqb-true 0 x (left_true (nat_eq 0 x) (nat_eq 0 y && true) h) in
    let b : 0 ≡ y = eqb-true 0 y (left_true (nat_eq 0 y) true (right_true (nat_eq 0 x) (nat_eq 0 y && true) h)) in
    subst (λ (z : ℕ). later_empty (slice_split is_zero (z ∷ y ∷ [])) ≡ true) a (subst (λ (z : ℕ). later_empty (slice_split is_zero (0 ∷ z ∷ [])) ≡ true) b refl)
last_two (x ∷ y ∷ z ∷ zs) h =
    let ys : List ℕ = y ∷ z ∷ zs in
    let e : length (x ∷ y ∷ z ∷ zs) - 2 ≡ suc (length (y ∷ z ∷ zs) - 2) = omega arith in
    let parts = split_cons ys in
    let later : list_any is_empty (but_last parts.1) ≡ true =
    sym (ap later_empty parts.2) ∙ last_two (y ∷ z ∷ zs) (subst (λ (n : ℕ). pointwise nat_eq (0 ∷ 0 ∷ []) (drop n (x ∷ y ∷ z ∷ zs)) ≡ true) e h) in
    elim (is_zero x) as (λ b. is_zero x ≡ b → later_empty (slice_split is_zero (x ∷ ys)) ≡ true) [
      | true ↦ λ f. ap later_empty (slice_split-cons_yes is_zero x ys f ∙ ap (λ ps. [] ∷ ps) parts.2) ∙ any_later parts.0 parts.1 later
      | false ↦ λ f. ap later_empty (slice_split-cons_no is_zero x ys f ∙ ap (onto_first x) parts.2) ∙ later
    ] refl

pub ended_at_end : (xs : List ℕ) → pointwise nat_eq (0 ∷ 0 ∷ []) (drop (length xs - 2) xs) ≡ true → true ≡ is_terminated xs
unfolding later_empty
ended_at_end xs h =
    let parts = split_cons xs in
    sym (ap (λ ps. list_any is_empty (but_last ps)) parts.2 ∙ any_later parts.0 parts.1 (sym (ap later_empty parts.2) ∙ last_two xs h))
