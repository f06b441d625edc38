-- The table of the attributes, a map from names, against the items of the text of `.flags`.
use Rattle.std.proofs.Common.{◌≡◌, ℕ, ◌+◌, ◌<◌, ◌&&◌, true, false, cond, not, List, [], ◌∷◌, ◌++◌, map, reverse, length, take, get_or, eqb, Some, refl, sym, ap, ◌∙◌}
use Rattle.std.specs.Prelude.{filter}
use Rattle.std.specs.Ordering.{is_eq, eq_by_cmp, match_ordering}
use Rattle.std.specs.declared.cmp.Ordering.TheVariants.{Less, Equal, Greater}
use Rattle.std.specs.Cmp.Lexicographic.{nat_list_cmp_total}
use Rattle.std.specs.FinMap.Entries.{find, put, find-put, by_order}
use Rattle.std.specs.Map.{lookup}
use Rattle.std.specs.BTreeMap.{insert_entry}
use Rattle.std.specs.Option.{option_map}
use Rattle.std.proofs.lemmas.List.{map-append, take_more, reverse-append}
use Rattle.std.proofs.lemmas.List.Elements.{filter-append}
use Rattle.envimg_core.specs.Environment.{bytes_cmp, is_empty}
use Rattle.envvars_core.specs.declared.attributes.Attr.{Attr}
use Rattle.envvars_core.specs.Attributes.{FlagsItem, names_one, item_of, found_among}
use Rattle.envvars_core.specs.Steps.{found_after}

-- an entry of the table, its key read as bytes
abbrev pub entry_view : {K : Type 0} → (K → List ℕ) → K × Attr → FlagsItem
entry_view bytes e = (bytes e.0, e.1)

pub found-cons : (item : FlagsItem) (items : List FlagsItem) (n : List ℕ) → found_among (item ∷ items) n ≡ cond (eq_by_cmp bytes_cmp n item.0) (Some item.1) (found_among items n)
found-cons item items n =
    elim (eq_by_cmp bytes_cmp n item.0) as (λ b. option_map (λ (i : FlagsItem). i.1) (cond b (Some item) (Rattle.std.specs.List.find (λ i. eq_by_cmp bytes_cmp n i.0) items)) ≡ cond b (Some item.1) (found_among items n)) [ true ↦ refl | false ↦ refl ]

found_is_find : (items : List FlagsItem) (n : List ℕ) → found_among items n ≡ find bytes_cmp n items
found_is_find [] n = refl
found_is_find (item ∷ items) n = found-cons item items n ∙ ap (cond (eq_by_cmp bytes_cmp n item.0) (Some item.1)) (found_is_find items n)

-- a look-up in the table
pub found_by_lookup : {K : Type 0} (bytes : K → List ℕ) (n : List ℕ) (es : List (K × Attr)) → lookup (λ k. is_eq (bytes_cmp n (bytes k))) es ≡ found_among (map (entry_view bytes) es) n
found_by_lookup bytes n [] = refl
found_by_lookup bytes n (e ∷ es) =
    ap (cond (eq_by_cmp bytes_cmp n (bytes e.0)) (Some e.1)) (found_by_lookup bytes n es) ∙ sym (found-cons (entry_view bytes e) (map (entry_view bytes) es) n)

map-insert_entry : {K : Type 0} (bytes : K → List ℕ) (es : List (K × Attr)) (k : K) (a : Attr) → map (entry_view bytes) (insert_entry (λ x y. bytes_cmp (bytes x) (bytes y)) es k a) ≡ put bytes_cmp (bytes k) a (map (entry_view bytes) es)
map-insert_entry bytes [] k a = refl
map-insert_entry bytes (e ∷ es) k a =
    elim (bytes_cmp (bytes k) (bytes e.0)) as (λ o. map (entry_view bytes) (match_ordering o ((k, a) ∷ e ∷ es) ((e.0, a) ∷ es) (e ∷ insert_entry (λ x y. bytes_cmp (bytes x) (bytes y)) es k a)) ≡ by_order o ((bytes k, a) ∷ entry_view bytes e ∷ map (entry_view bytes) es) ((bytes e.0, a) ∷ map (entry_view bytes) es) (entry_view bytes e ∷ put bytes_cmp (bytes k) a (map (entry_view bytes) es))) [
      | Less ↦ refl
      | Equal ↦ refl
      | Greater ↦ ap (λ is. entry_view bytes e ∷ is) (map-insert_entry bytes es k a)
    ]

-- what a name has after a key was put into the table
found-insert_entry : {K : Type 0} (bytes : K → List ℕ) (es : List (K × Attr)) (k : K) (a : Attr) (n : List ℕ) → found_among (map (entry_view bytes) (insert_entry (λ x y. bytes_cmp (bytes x) (bytes y)) es k a)) n ≡ cond (eq_by_cmp bytes_cmp n (bytes k)) (Some a) (found_among (map (entry_view bytes) es) n)
found-insert_entry bytes es k a n =
    found_is_find _ n ∙ ap (find bytes_cmp n) (map-insert_entry bytes es k a) ∙ find-put bytes_cmp nat_list_cmp_total n (bytes k) a (map (entry_view bytes) es) ∙ ap (cond (eq_by_cmp bytes_cmp n (bytes k)) (Some a)) (sym (found_is_find (map (entry_view bytes) es) n))

is_named : (xs : List ℕ) → eqb (length xs) 0 ≡ false → is_empty xs ≡ false
is_named [] e = cc
is_named (x ∷ xs) e = refl

-- an item with a name was put into the table
pub found_added : {K : Type 0} (bytes : K → List ℕ) (es : List (K × Attr)) (k : K) (a : Attr) (item : FlagsItem) (items : List FlagsItem) (n : List ℕ) → map (entry_view bytes) es ≡ items → bytes k ≡ item.0 → a ≡ item.1 → eqb (length item.0) 0 ≡ false → found_among (map (entry_view bytes) (insert_entry (λ x y. bytes_cmp (bytes x) (bytes y)) es k a)) n ≡ found_after item items n
found_added bytes es k a item items n same key attr named =
    found-insert_entry bytes es k a n ∙ ap (λ is. cond (eq_by_cmp bytes_cmp n (bytes k)) (Some a) (found_among is n)) same ∙ ap (λ m. cond (eq_by_cmp bytes_cmp n m) (Some a) (found_among items n)) key ∙ ap (λ x. cond (eq_by_cmp bytes_cmp n item.0) (Some x) (found_among items n)) attr ∙ ap (λ b. cond (not b && eq_by_cmp bytes_cmp n item.0) (Some item.1) (found_among items n)) (sym (is_named item.0 named))

-- the items of some pieces of the text, the last one first
abbrev pub last_first : List (List ℕ) → List FlagsItem
last_first pieces = reverse (filter names_one (map item_of pieces))

found-cond : (item : FlagsItem) (items : List FlagsItem) (n : List ℕ) → found_after item items n ≡ found_among (reverse (cond (names_one item) (item ∷ []) []) ++ items) n
found-cond item items n =
    elim (names_one item) as (λ b. cond (b && eq_by_cmp bytes_cmp n item.0) (Some item.1) (found_among items n) ≡ found_among (reverse (cond b (item ∷ []) []) ++ items) n) [ true ↦ sym (found-cons item items n) | false ↦ refl ]

last_first_more : (pieces : List (List ℕ)) (p : List ℕ) → last_first (pieces ++ p ∷ []) ≡ reverse (cond (names_one (item_of p)) (item_of p ∷ []) []) ++ last_first pieces
last_first_more pieces p = simp (map-append, filter-append, reverse-append)

-- one more piece was read
pub found_more : (pieces : List (List ℕ)) (k : ℕ) (p : List ℕ) (items : List FlagsItem) (n : List ℕ) → k < length pieces → p ≡ get_or pieces k p → found_among items n ≡ found_among (last_first (take k pieces)) n → found_after (item_of p) items n ≡ found_among (last_first (take (k + 1) pieces)) n
found_more pieces k p items n inside is so_far =
    ap (λ o. cond (names_one (item_of p) && eq_by_cmp bytes_cmp n (item_of p).0) (Some (item_of p).1) o) so_far
    ∙ found-cond (item_of p) (last_first (take k pieces)) n
    ∙ ap (λ is. found_among is n) (sym (last_first_more (take k pieces) p))
    ∙ ap (λ q. found_among (last_first (take k pieces ++ q ∷ [])) n) is
    ∙ ap (λ ps. found_among (last_first ps) n) (sym (take_more pieces k p inside))
