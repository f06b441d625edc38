-- Variables as they lie in memory, against their values.
use Rattle.std.proofs.Common.{◌≡◌, ℕ, Bool, false, cond, eqb, length, List, [], ◌∷◌, Vec, Some, refl, sym, ap, ◌∙◌, vec_len}
use Rattle.std.specs.Prelude.{option_map, if◌then◌else◌}
use Rattle.std.specs.declared.alloc.Global.{Global}
use Rattle.std.specs.declared.cmp.Ordering.{Ordering}
use Rattle.std.specs.declared.cmp.Ordering.TheVariants.{Less, Equal, Greater}
use Rattle.std.specs.Ordering.{is_eq, match_ordering}
use Rattle.std.specs.Map.{lookup, remove_entry}
use Rattle.std.specs.BTreeMap.{insert_entry}
use Rattle.env_source.specs.declared.reading.Definition.{Definition}
use Rattle.env_source.specs.Reading.{definition_view, is_called, name_order, variable_view, variables_view, with_definition}

abbrev pub Entry : Type 0
Entry = Vec ℕ Global × Definition

abbrev pub key_order : Vec ℕ Global → Vec ℕ Global → Ordering
key_order x y = name_order x.items y.items

abbrev pub has_name : List ℕ → Vec ℕ Global → Bool
has_name n k = is_eq (name_order n k.items)

-- a look-up
pub lookup-variables : (n : List ℕ) (es : List Entry) → option_map definition_view (lookup (has_name n) es) ≡ lookup (is_called n) (variables_view es)
lookup-variables n [] = refl
lookup-variables n (e ∷ es) =
    elim (name_order n e.0.items) as (λ o. option_map definition_view (cond (is_eq o) (Some e.1) (lookup (has_name n) es)) ≡ cond (is_eq o) (Some (definition_view e.1)) (lookup (is_called n) (variables_view es))) [
      | Less ↦ lookup-variables n es
      | Equal ↦ refl
      | Greater ↦ lookup-variables n es
    ]

-- one more
pub insert-variables : (es : List Entry) (k : Vec ℕ Global) (d : Definition) → variables_view (insert_entry key_order es k d) ≡ insert_entry name_order (variables_view es) k.items (definition_view d)
insert-variables [] k d = refl
insert-variables (e ∷ es) k d =
    elim (name_order k.items e.0.items) as (λ o. variables_view (match_ordering o ((k, d) ∷ e ∷ es) ((e.0, d) ∷ es) (e ∷ insert_entry key_order es k d)) ≡ match_ordering o ((k.items, definition_view d) ∷ variable_view e ∷ variables_view es) ((e.0.items, definition_view d) ∷ variables_view es) (variable_view e ∷ insert_entry name_order (variables_view es) k.items (definition_view d))) [
      | Less ↦ refl
      | Equal ↦ refl
      | Greater ↦ ap (λ is. variable_view e ∷ is) (insert-variables es k d)
    ]

-- one less
pub remove-variables : (n : List ℕ) (es : List Entry) → variables_view (remove_entry (has_name n) es) ≡ remove_entry (is_called n) (variables_view es)
remove-variables n [] = refl
remove-variables n (e ∷ es) =
    elim (name_order n e.0.items) as (λ o. variables_view (cond (is_eq o) es (e ∷ remove_entry (has_name n) es)) ≡ cond (is_eq o) (variables_view es) (variable_view e ∷ remove_entry (is_called n) (variables_view es))) [
      | Less ↦ ap (λ is. variable_view e ∷ is) (remove-variables n es)
      | Equal ↦ refl
      | Greater ↦ ap (λ is. variable_view e ∷ is) (remove-variables n es)
    ]

-- a definition with a value
pub defined : (es new : List Entry) (k : Vec ℕ Global) (d : Definition) → eqb (vec_len d.value) 0 ≡ false → new ≡ insert_entry key_order es k d →
    variables_view new ≡ with_definition (variables_view es) k.items (definition_view d)
defined es new k d some is =
    let long : eqb (length d.value.items) 0 ≡ false = ap (λ (n : ℕ). eqb n 0) (sym d.value.ok.0) ∙ some in
    ap variables_view is ∙ insert-variables es k d
    ∙ ap (λ (b : Bool). if b then variables_view es else insert_entry name_order (variables_view es) k.items (definition_view d)) (sym long)
