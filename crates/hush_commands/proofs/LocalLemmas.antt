-- Local variables that were copied, and those whose name is no number.
use Rattle.std.proofs.Common.{◌≡◌, ℕ, Bool, true, false, cond, not, T, List, [], ◌∷◌, Vec, vec_len, None, refl, sym, ap, subst, ◌∙◌}
use Rattle.std.specs.List.{AllZip, filter}
use Rattle.std.specs.declared.alloc.Global.{Global}
use Rattle.std.specs.declared.cmp.Ordering.TheVariants.{Equal}
use Rattle.std.specs.Cmp.Lexicographic.{nat_list_cmp_total}
use Rattle.std.specs.FinMap as names
use Rattle.std.specs.FinMap.Entries.{is_sorted, where_key, find-where_key, is_sorted-where_key}
use Rattle.envimg_core.specs.Environment.{Environment, bytes_cmp}
use Rattle.hush_commands.specs.Entries.{Entry, entry_view, entries_view, bytes_view}
use Rattle.hush_commands.specs.Hardware.{is_number, unnumbered}
use Rattle.hush_commands.proofs.EntryLemmas.{AreSorted, map_of}

same_bytes : (xs ys : List ℕ) → AllZip (λ (x : ℕ) (y : ℕ). y ≡ x) xs ys → ys ≡ xs
same_bytes [] [] h = refl
same_bytes [] (y ∷ ys) h = absurd h
same_bytes (x ∷ xs) [] h = absurd h
same_bytes (x ∷ xs) (y ∷ ys) h = ap (λ (b : ℕ). b ∷ ys) h.0 ∙ ap (λ (bs : List ℕ). x ∷ bs) (same_bytes xs ys h.1)

abbrev pub IsCopy : Vec ℕ Global → Vec ℕ Global → Type 0
IsCopy v w = AllZip (λ (x : ℕ) (y : ℕ). y ≡ x) v.items w.items × (vec_len w ≡ vec_len v)

pub copied_entries : (es fs : List (Entry (Vec ℕ Global))) → AllZip (λ (p : Entry (Vec ℕ Global)) (q : Entry (Vec ℕ Global)). IsCopy p.0 q.0 × IsCopy p.1 q.1) es fs → entries_view bytes_view fs ≡ entries_view bytes_view es
copied_entries [] [] h = refl
copied_entries [] (f ∷ fs) h = absurd h
copied_entries (e ∷ es) [] h = absurd h
copied_entries (e ∷ es) (f ∷ fs) h =
    ap (λ (k : List ℕ). (k, f.1.items) ∷ entries_view bytes_view fs) (same_bytes e.0.items f.0.items h.0.0.0)
    ∙ ap (λ (v : List ℕ). (e.0.items, v) ∷ entries_view bytes_view fs) (same_bytes e.1.items f.1.items h.0.1.0)
    ∙ ap (λ (xs : List (List ℕ × List ℕ)). (e.0.items, e.1.items) ∷ xs) (copied_entries es fs h.1)

-- only equal names tie
same_name : (q x : List ℕ) → bytes_cmp q x ≡ Equal → q ≡ x
same_name = names.slice_cmp-IsAntisymmetric names.nat_cmp-IsAntisymmetric

abbrev pub is_kept : List ℕ → Bool
is_kept name = not (is_number name)

kept_alike : (q x : List ℕ) → bytes_cmp q x ≡ Equal → is_kept x ≡ is_kept q
kept_alike q x e = ap is_kept (sym (same_name q x e))

pub get-unnumbered : (locals : Environment) (q : List ℕ) → names.get (unnumbered locals) q ≡ cond (is_kept q) (names.get locals q) None
get-unnumbered locals q = names.get-retain_keys locals is_kept q (kept_alike q)

-- the same as they lie in memory
abbrev pub kept : List (Entry (Vec ℕ Global)) → List (Entry (Vec ℕ Global))
kept es = filter (λ e. is_kept e.0.items) es

kept_entries : (es : List (Entry (Vec ℕ Global))) → entries_view bytes_view (kept es) ≡ where_key bytes_cmp is_kept (entries_view bytes_view es)
kept_entries [] = refl
kept_entries (e ∷ es) =
    elim (is_kept e.0.items) as (λ b. entries_view bytes_view (cond b (e ∷ kept es) (kept es)) ≡ cond b (entry_view bytes_view e ∷ where_key bytes_cmp is_kept (entries_view bytes_view es)) (where_key bytes_cmp is_kept (entries_view bytes_view es))) [
      | true ↦ ap (λ xs. entry_view bytes_view e ∷ xs) (kept_entries es)
      | false ↦ kept_entries es
    ]

pub kept_sorted : (es : List (Entry (Vec ℕ Global))) → AreSorted bytes_view es → AreSorted bytes_view (kept es)
kept_sorted es h = subst (λ xs. T (is_sorted bytes_cmp xs)) (sym (kept_entries es)) (is_sorted-where_key bytes_cmp is_kept (entries_view bytes_view es) h)

pub kept_value : (es : List (Entry (Vec ℕ Global))) (locals : Environment) → AreSorted bytes_view es → map_of bytes_view es ≡ locals → map_of bytes_view (kept es) ≡ unnumbered locals
kept_value es locals h at =
    let pairs = entries_view bytes_view es in
    ap names.from_sorted (kept_entries es)
    ∙ names.same_map nat_list_cmp_total same_name _ _ (λ q.
    names.get-from_sorted bytes_cmp (where_key bytes_cmp is_kept pairs) q (is_sorted-where_key bytes_cmp is_kept pairs h)
    ∙ find-where_key bytes_cmp is_kept q (kept_alike q) pairs
    ∙ ap (λ o. cond (is_kept q) o None) (sym (names.get-from_sorted bytes_cmp pairs q h) ∙ ap (λ o. names.get o q) at)
    ∙ sym (get-unnumbered locals q))
