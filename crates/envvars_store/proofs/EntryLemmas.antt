-- One piece of a data area as an entry, and what it does to the variables.
use Rattle.std.proofs.Common.{◌≡◌, ◌≢◌, ℕ, zero, suc, ◌+◌, ◌-◌, ◌<◌, ◌≤◌, false, not, ◌||◌, IsTrue, List, [], ◌∷◌, ◌++◌, length, take, drop, get_or, map, filter, fold, All, Option, Some, None, sym, ap, subst, ◌∙◌, refl, arith, length-take, length-take-le, length-drop, slice_range, take-take}
use Rattle.std.specs.FinMap as env
use Rattle.std.specs.List.{position_or_len, take_while}
use Rattle.std.proofs.lemmas.List.{take_all, take_rest, drop_all, drop-take, get_or-take}
use Rattle.std.proofs.Math.Seq.{drop-drop}
use Rattle.std.proofs.lemmas.List.Sums.{take_while-cons, fold-append}
use Rattle.std.proofs.lemmas.List.Splits.{slice_split_none}
use Rattle.std.proofs.lemmas.List.Folds.{list_any_none}
use Rattle.std.proofs.lemmas.List.Elements.{filter-append, All-take, All-drop}
use Rattle.memchr.specs.Find.{IsFirstByte, is_byte}
use Rattle.envimg_core.proofs.Facts.{not_true}
use Rattle.envimg_core.proofs.EntryLemmas.{found, missed, ended_first}
use Rattle.std.proofs.lemmas.Bool.{or_from}
use Rattle.envimg_core.specs.Environment.{Environment, is_empty, is_zero, is_equals, is_name, is_value, IsVariable}
use Rattle.envimg_core.specs.Pieces.{but_last, ended_pieces, Entry, value_of, entry_of, entries_of, has_name, after_entry, with_value}
use Rattle.envvars_store.specs.Pieces.{IsPiece}

same_default : (xs : List ℕ) (i d e : ℕ) → i < length xs → get_or xs i d ≡ get_or xs i e
same_default [] i d e h = absurd (omega arith)
same_default (x ∷ xs) zero d e h = refl
same_default (x ∷ xs) (suc i) d e h = same_default xs i d e (omega arith)

-- the bytes before the first place don't have the byte
pub before_at : (a : ℕ) (xs : List ℕ) (k : ℕ) → IsFirstByte (is_byte a) xs (Some k) → All (λ b. is_byte a b ≡ false) (take k xs)
before_at a xs k f i d h =
    let within : k < length xs = f.0.high in
    let short : i < k = omega (arith, length-take k xs) in
    ap (is_byte a) (get_or-take k xs i d short ∙ same_default xs i d 0 (omega arith)) ∙ not_true _ (f.0.before i (omega arith) short)

pub none_at : (a : ℕ) (xs : List ℕ) → IsFirstByte (is_byte a) xs None → All (λ b. is_byte a b ≡ false) xs
none_at a xs f i d h = ap (is_byte a) (same_default xs i d 0 h) ∙ not_true _ (f i (omega arith) h)

pub entry_at : (xs : List ℕ) (k : ℕ) → position_or_len is_equals xs ≡ k → entry_of xs ≡ (take k xs, value_of (drop (k + 1) xs))
entry_at xs k e = ap (λ n. (take n xs, value_of (drop (n + 1) xs))) e

-- what one entry does
pub without_name : (m : Environment) (xs : List ℕ) → position_or_len is_equals xs ≡ 0 → fold after_entry m (filter has_name (entry_of xs ∷ [])) ≡ m
without_name m xs e = ap (λ x. fold after_entry m (filter has_name (x ∷ []))) (entry_at xs 0 e)

named : (m : Environment) (n : List ℕ) (v : Option (List ℕ)) → 0 < length n → fold after_entry m (filter has_name ((n, v) ∷ [])) ≡ with_value m n v
named m [] v h = absurd (omega arith)
named m (b ∷ bs) v h = refl

pub takes_away : (m : Environment) (xs : List ℕ) (k : ℕ) → position_or_len is_equals xs ≡ k → 0 < k → k ≤ length xs → length xs ≤ k + 1 → fold after_entry m (filter has_name (entry_of xs ∷ [])) ≡ env.remove m (take k xs)
takes_away m xs k e p w z =
    ap (λ x. fold after_entry m (filter has_name (x ∷ []))) (entry_at xs k e ∙ ap (λ v. (take k xs, value_of v)) (drop_all (k + 1) xs z)) ∙ named m (take k xs) None (omega (arith, length-take k xs))

full : (v : List ℕ) → 0 < length v → value_of v ≡ Some v
full [] h = absurd (omega arith)
full (b ∷ bs) h = refl

pub gives : (m : Environment) (xs : List ℕ) (k : ℕ) → position_or_len is_equals xs ≡ k → 0 < k → k + 1 < length xs → fold after_entry m (filter has_name (entry_of xs ∷ [])) ≡ env.insert m (take k xs) (drop (k + 1) xs)
gives m xs k e p w =
    ap (λ x. fold after_entry m (filter has_name (x ∷ []))) (entry_at xs k e ∙ ap (λ v. (take k xs, v)) (full (drop (k + 1) xs) (omega (arith, length-drop (k + 1) xs))))
    ∙ named m (take k xs) (Some (drop (k + 1) xs)) (omega (arith, length-take k xs))

-- the forms of its name and value
named_form : (n : List ℕ) → 0 < length n → All (λ b. is_zero b ≡ false) n → All (λ b. is_equals b ≡ false) n → IsTrue (is_name n)
named_form [] h z e = absurd (omega arith)
named_form (b ∷ bs) h z e = ap not (list_any_none (λ c. is_zero c || is_equals c) (b ∷ bs) (λ i d w. or_from _ _ (z i d w) (e i d w)))

pub name_formed : (xs : List ℕ) (k : ℕ) → All (λ b. is_zero b ≡ false) xs → IsFirstByte (is_byte 61) xs (Some k) → 0 < k → IsTrue (is_name (take k xs))
name_formed xs k z f p =
    let within : k < length xs = f.0.high in
    named_form (take k xs) (omega (arith, length-take k xs)) (All-take (λ b. is_zero b ≡ false) k xs z) (before_at 61 xs k f)

pub value_formed : (v : List ℕ) → 0 < length v → All (λ b. is_zero b ≡ false) v → IsTrue (is_value v)
value_formed [] h z = absurd (omega arith)
value_formed (b ∷ bs) h z = ap not (list_any_none is_zero (b ∷ bs) z)

-- the entries of an area, one piece after another
entries_in : List (List ℕ) → List Entry
entries_in ps = filter has_name (map entry_of (take_while (λ piece. not (is_empty piece)) ps))

entries_are : (xs : List ℕ) → entries_of xs ≡ entries_in (ended_pieces xs)
unfolding entries_of entries_in
entries_are xs = refl

empty_first : (ps : List (List ℕ)) → entries_in ([] ∷ ps) ≡ []
unfolding entries_in
empty_first ps = ap (λ qs. filter has_name (map entry_of qs)) (take_while-cons (λ piece. not (is_empty piece)) [] ps)

full_first : (p : List ℕ) (ps : List (List ℕ)) → 0 < length p → entries_in (p ∷ ps) ≡ filter has_name (entry_of p ∷ []) ++ entries_in ps
unfolding entries_in
full_first [] ps h = absurd (omega arith)
full_first (b ∷ bs) ps h =
    ap (λ qs. filter has_name (map entry_of qs)) (take_while-cons (λ piece. not (is_empty piece)) (b ∷ bs) ps)
    ∙ filter-append has_name (entry_of (b ∷ bs) ∷ []) (map entry_of (take_while (λ piece. not (is_empty piece)) ps))

nothing : entries_in [] ≡ []
unfolding entries_in
nothing = refl

pub entries_next : (xs : List ℕ) (k : ℕ) → position_or_len is_zero xs ≡ k → 0 < k → k < length xs → entries_of xs ≡ filter has_name (entry_of (take k xs) ∷ []) ++ entries_of (drop (k + 1) xs)
entries_next xs k e p w =
    entries_are xs ∙ ap entries_in (ended_first xs k e w) ∙ full_first (take k xs) _ (omega (arith, length-take k xs)) ∙ ap (λ es. filter has_name (entry_of (take k xs) ∷ []) ++ es) (sym (entries_are (drop (k + 1) xs)))

pub entries_end : (xs : List ℕ) → position_or_len is_zero xs ≡ 0 → 0 < length xs → entries_of xs ≡ []
entries_end xs e w = entries_are xs ∙ ap entries_in (ended_first xs 0 e w) ∙ empty_first _

pub entries_none : (xs : List ℕ) → All (λ b. is_zero b ≡ false) xs → entries_of xs ≡ []
entries_none xs z = entries_are xs ∙ ap (λ ps. entries_in (but_last ps)) (slice_split_none is_zero xs z) ∙ nothing

-- the piece of an area that begins at one place and ends at another
pub piece_found : (area : List ℕ) (at k : ℕ) → at ≤ length area → IsFirstByte (is_byte 0) (drop at area) (Some k) → 0 < k → IsPiece area at (at + k)
piece_found area at k w f p =
    let short : k < length (drop at area) = f.0.high in
    let inner : at + k < length area = omega (arith, length-drop at area) in
    let same : at + k - at ≡ k = omega arith in
    let cut : slice_range area at (at + k) ≡ take k (drop at area) = ap (λ n. take n (drop at area)) same in
    let behind : at + (k + 1) ≡ at + k + 1 = omega arith in
    record {
      some = omega arith;
      within = inner;
      whole = subst (All (λ b. is_zero b ≡ false)) (sym cut) (before_at 0 (drop at area) k f);
      next = entries_next (drop at area) k (found (is_byte 0) _ k f) p short ∙ ap (λ es. filter has_name (entry_of es ∷ []) ++ entries_of (drop (k + 1) (drop at area))) (sym cut) ∙ ap (λ r. filter has_name (entry_of (slice_range area at (at + k)) ∷ []) ++ entries_of r) (drop-drop (k + 1) at area ∙ ap (λ n. drop n area) behind);
    }

-- the variables after one more piece
pub piece_read : (area : List ℕ) (at end : ℕ) (m n goal : Environment) → IsPiece area at end → fold after_entry m (entries_of (drop at area)) ≡ goal → n ≡ fold after_entry m (filter has_name (entry_of (slice_range area at end) ∷ [])) → fold after_entry n (entries_of (drop (end + 1) area)) ≡ goal
piece_read area at end m n goal p e is =
    ap (λ x. fold after_entry x (entries_of (drop (end + 1) area))) is
    ∙ sym (fold-append after_entry m (filter has_name (entry_of (slice_range area at end) ∷ [])) (entries_of (drop (end + 1) area)))
    ∙ ap (fold after_entry m) (sym p.next) ∙ e

-- the four ways of a piece: no '=', nothing before it, nothing after it, a name and a value
pub none_takes : (m : Environment) (xs : List ℕ) → 0 < length xs → IsFirstByte (is_byte 61) xs None → env.remove m xs ≡ fold after_entry m (filter has_name (entry_of xs ∷ []))
none_takes m xs h f =
    ap (env.remove m) (sym (take_all (length xs) xs (omega arith))) ∙ sym (takes_away m xs (length xs) (missed (is_byte 61) xs f) h (omega arith) (omega arith))

pub some_takes : (m : Environment) (xs : List ℕ) (k : ℕ) → IsFirstByte (is_byte 61) xs (Some k) → (k ≢ 0) → k + 1 ≡ length xs → env.remove m (take k xs) ≡ fold after_entry m (filter has_name (entry_of xs ∷ []))
some_takes m xs k f n e = sym (takes_away m xs k (found (is_byte 61) xs k f) (omega arith) (omega arith) (omega arith))

-- a search in what follows a place
pub rest_first : (a : ℕ) (area : List ℕ) (at : ℕ) (r : Option ℕ) → IsFirstByte (is_byte a) (take (length area - at) (drop at area)) r → IsFirstByte (is_byte a) (drop at area) r
rest_first a area at r f = subst (λ xs. IsFirstByte (is_byte a) xs r) (take_rest area at) f

pub ended : (xs : List ℕ) (k : ℕ) → k ≡ 0 → IsFirstByte (is_byte 0) xs (Some k) → entries_of xs ≡ []
ended xs k e f =
    let within : k < length xs = f.0.high in
    entries_end xs (found (is_byte 0) xs k f ∙ e) (omega arith)

-- a name and a value as extents of an area
pub name_part : (area : List ℕ) (s e k : ℕ) → k ≤ e - s → slice_range area s (s + k) ≡ take k (slice_range area s e)
name_part area s e k h =
    let same : s + k - s ≡ k = omega arith in
    ap (λ n. take n (drop s area)) same ∙ sym (take-take k (e - s) (drop s area) h)

value_part : (area : List ℕ) (s e k : ℕ) → k + 1 ≤ e - s → slice_range area (s + k + 1) e ≡ drop (k + 1) (slice_range area s e)
value_part area s e k h =
    let whole : k + 1 + (e - (s + k + 1)) ≡ e - s = omega arith in
    let there : s + (k + 1) ≡ s + k + 1 = omega arith in
    sym (ap (λ n. drop (k + 1) (take n (drop s area))) (sym whole) ∙ drop-take (k + 1) (e - (s + k + 1)) (drop s area) ∙ ap (take (e - (s + k + 1))) (drop-drop (k + 1) s area ∙ ap (λ n. drop n area) there))

pub piece_long : (area : List ℕ) (s e : ℕ) → IsPiece area s e → length (slice_range area s e) ≡ e - s
piece_long area s e p = let w = p.within in length-take-le (e - s) (drop s area) (omega (arith, length-drop s area))

pub place_formed : (area : List ℕ) (s e k : ℕ) → IsPiece area s e → IsFirstByte (is_byte 61) (slice_range area s e) (Some k) → (k ≢ 0) → (k + 1 ≢ length (slice_range area s e)) → IsVariable (slice_range area s (s + k), slice_range area (s + k + 1) e)
place_formed area s e k p f n m =
    let within : k < length (slice_range area s e) = f.0.high in
    let size = piece_long area s e p in
    let more : k + 1 < length (slice_range area s e) = omega arith in (
      subst (λ v. IsTrue (is_name v)) (sym (name_part area s e k (omega arith))) (name_formed (slice_range area s e) k p.whole f (omega arith)),
      subst (λ v. IsTrue (is_value v)) (sym (value_part area s e k (omega arith))) (value_formed (drop (k + 1) (slice_range area s e)) (omega (arith, length-drop (k + 1) (slice_range area s e))) (All-drop (λ b. is_zero b ≡ false) (k + 1) (slice_range area s e) p.whole)),
    )

pub place_gives : (m : Environment) (area : List ℕ) (s e k : ℕ) → IsPiece area s e → IsFirstByte (is_byte 61) (slice_range area s e) (Some k) → (k ≢ 0) → (k + 1 ≢ length (slice_range area s e)) → env.insert m (slice_range area s (s + k)) (slice_range area (s + k + 1) e) ≡ fold after_entry m (filter has_name (entry_of (slice_range area s e) ∷ []))
place_gives m area s e k p f n o =
    let within : k < length (slice_range area s e) = f.0.high in
    let size = piece_long area s e p in
    ap (λ a. env.insert m a (slice_range area (s + k + 1) e)) (name_part area s e k (omega arith))
    ∙ ap (env.insert m (take k (slice_range area s e))) (value_part area s e k (omega arith))
    ∙ sym (gives m (slice_range area s e) k (found (is_byte 61) (slice_range area s e) k f) (omega arith) (omega arith))

pub piece_some : (area : List ℕ) (s e : ℕ) → IsPiece area s e → 0 < length (slice_range area s e)
piece_some area s e p = let h = p.some in omega (arith, piece_long area s e p)
