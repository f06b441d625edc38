-- Names with values as they lie in memory, against the map that they are.
use Rattle.std.proofs.Common.{◌≡◌, ℕ, Bool, cond, T, List, [], ◌∷◌, length, Vec, Some, refl, sym, ap, subst, ◌∙◌}
use Rattle.std.specs.Prelude.{option_map}
use Rattle.std.specs.declared.alloc.Global.{Global}
use Rattle.std.specs.Ordering.{is_eq, match_ordering, nat_cmp}
use Rattle.std.specs.declared.cmp.Ordering.{Ordering}
use Rattle.std.specs.declared.cmp.Ordering.TheVariants.{Less, Equal, Greater}
use Rattle.std.specs.Cmp.Lexicographic.{slice_cmp, nat_list_cmp_total}
use Rattle.std.specs.FinMap as names
use Rattle.std.specs.FinMap.{FinMap}
use Rattle.std.specs.FinMap.Entries.{find, put, is_sorted, by_order, is_sorted-put}
use Rattle.std.specs.Map.{lookup}
use Rattle.std.specs.BTreeMap.{insert_entry}
use Rattle.hush_commands.specs.Entries.{Entry, entry_view, entries_view}

abbrev order : List ℕ → List ℕ → Ordering
order = slice_cmp nat_cmp

abbrev pub key_order : Vec ℕ Global → Vec ℕ Global → Ordering
key_order x y = order x.items y.items

abbrev pub is_called : List ℕ → Vec ℕ Global → Bool
is_called n k = is_eq (order n k.items)

-- a look-up
pub lookup-entries : {V W : Type 0} (view : V → W) (n : List ℕ) (es : List (Entry V)) → option_map view (lookup (is_called n) es) ≡ find order n (entries_view view es)
lookup-entries view n [] = refl
lookup-entries view n (e ∷ es) =
    elim (order n e.0.items) as (λ o. option_map view (cond (is_eq o) (Some e.1) (lookup (is_called n) es)) ≡ cond (is_eq o) (Some (view e.1)) (find order n (entries_view view es))) [
      | Less ↦ lookup-entries view n es
      | Equal ↦ refl
      | Greater ↦ lookup-entries view n es
    ]

-- one more
pub insert-entries : {V W : Type 0} (view : V → W) (es : List (Entry V)) (k : Vec ℕ Global) (v : V) → entries_view view (insert_entry key_order es k v) ≡ put order k.items (view v) (entries_view view es)
insert-entries view [] k v = refl
insert-entries view (e ∷ es) k v =
    elim (order k.items e.0.items) as (λ o. entries_view view (match_ordering o ((k, v) ∷ e ∷ es) ((e.0, v) ∷ es) (e ∷ insert_entry key_order es k v)) ≡ by_order o ((k.items, view v) ∷ entry_view view e ∷ entries_view view es) ((e.0.items, view v) ∷ entries_view view es) (entry_view view e ∷ put order k.items (view v) (entries_view view es))) [
      | Less ↦ refl
      | Equal ↦ refl
      | Greater ↦ ap (λ is. entry_view view e ∷ is) (insert-entries view es k v)
    ]

-- the map of the values
abbrev pub map_of : {V W : Type 0} → (V → W) → List (Entry V) → FinMap order W
map_of view es = names.from_sorted (entries_view view es)

abbrev pub AreSorted : {V W : Type 0} → (V → W) → List (Entry V) → Type 0
AreSorted view es = T (is_sorted order (entries_view view es))

pub map-empty : {V W : Type 0} (view : V → W) (es : List (Entry V)) → es ≡ [] → map_of view es ≡ names.empty
map-empty view es e = ap (map_of view) e ∙ names.empty_of_len _ (names.len-entries _ ∙ ap length (names.entries-from_sorted order [] tt))

pub get-value : {V W : Type 0} (view : V → W) (es : List (Entry V)) (m : FinMap order W) (n : List ℕ) → AreSorted view es → map_of view es ≡ m → option_map view (lookup (is_called n) es) ≡ names.get m n
get-value view es m n h at = lookup-entries view n es ∙ sym (names.get-from_sorted order (entries_view view es) n h) ∙ ap (λ o. names.get o n) at

pub sorted-insert : {V W : Type 0} (view : V → W) (es : List (Entry V)) (k : Vec ℕ Global) (v : V) → AreSorted view es → AreSorted view (insert_entry key_order es k v)
sorted-insert view es k v h = subst (λ xs. T (is_sorted order xs)) (sym (insert-entries view es k v)) (is_sorted-put order nat_list_cmp_total k.items (view v) (entries_view view es) h)

pub insert-value : {V W : Type 0} (view : V → W) (es : List (Entry V)) (m : FinMap order W) (k : Vec ℕ Global) (v : V) → AreSorted view es → map_of view es ≡ m → map_of view (insert_entry key_order es k v) ≡ names.insert m k.items (view v)
insert-value view es m k v h at =
    ap names.from_sorted (insert-entries view es k v)
    ∙ names.same_entries_map _ _ (names.entries-from_sorted order _ (is_sorted-put order nat_list_cmp_total k.items (view v) (entries_view view es) h) ∙ ap (put order k.items (view v)) (sym (names.entries-from_sorted order (entries_view view es) h) ∙ ap names.entries at) ∙ sym (names.entries-insert nat_list_cmp_total m k.items (view v)))
