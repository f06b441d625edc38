-- Names of stand-ins, and their answers.
use Rattle.std.proofs.Common.{◌≡◌, ◌==◌, ℕ, Bool, true, false, List, [], ◌∷◌, map, Option, Some, None, is_some, unwrap_or, option_map, if◌then◌else◌, refl, sym, ap, ◌∙◌}
use Rattle.std.specs.FinMap as names
use Rattle.hush_commands.specs.declared.stand_ins.Role.{Role}
use Rattle.hush_commands.specs.Entries.{Entry, entries_view, role_view}
use Rattle.hush_commands.specs.Stubs.{Statuses, name_order}
use Rattle.hush_commands.specs.CommandNames.{found_in, is_known, only_name, stub_names, whole_name, without_width}
use Rattle.hush_commands.specs.Hardware.{Hardware, is_success, role_reply}
use Rattle.hush_commands.proofs.EntryLemmas.{map_of, AreSorted}

-- the names as they lie in memory
keys : (es : List (Entry Role)) → map (λ entry. entry.0) (entries_view role_view es) ≡ map (λ entry. entry.0.items) es
keys [] = refl
keys (e ∷ es) = ap (λ (ks : List (List ℕ)). e.0.items ∷ ks) (keys es)

pub stub_keys : (es : List (Entry Role)) (m : Statuses) → AreSorted role_view es → map_of role_view es ≡ m → map (λ entry. entry.0.items) es ≡ stub_names m
stub_keys es m sorted is =
    sym (keys es)
    ∙ ap (λ (xs : List (List ℕ × Role)). map (λ entry. entry.0) xs) (sym (names.entries-from_sorted name_order (entries_view role_view es) sorted))
    ∙ ap stub_names is

-- a stand-in answers with its status
pub with_status : (o : Option Role) (status : ℕ) → option_map (λ role. role.status) o ≡ Some status → (status == 0) ≡ is_success (option_map role_reply o)
with_status None status e = absurd (let f : false ≡ true = ap (λ (x : Option ℕ). is_some x) e in cc)
with_status (Some role) status e = ap (λ (x : Option ℕ). unwrap_or x status == 0) (sym e)

pub without_status : (o : Option Role) → option_map (λ role. role.status) o ≡ None → false ≡ is_success (option_map role_reply o)
without_status None e = refl
without_status (Some role) e = absurd (let f : true ≡ false = ap (λ (x : Option ℕ). is_some x) e in cc)

-- a word that is no name, with its width or without
third : (a b : Bool) (x y z : List ℕ) → false ≡ a → false ≡ b → z ≡ (if a then x else (if b then y else z))
third a b x y z e f = ap (λ (q : Bool). if q then y else z) f ∙ ap (λ (q : Bool). if q then x else (if b then y else z)) e

pub named_by : (h : Hardware) (word front : List ℕ) (o : Option (List ℕ)) → false ≡ is_known h word → front ≡ without_width word → false ≡ is_known h front → o ≡ only_name (found_in h front) → unwrap_or o word ≡ whole_name h word
named_by h word front o unknown is neither found =
    ap (λ (x : Option (List ℕ)). unwrap_or x word) (found ∙ ap (λ (f : List ℕ). only_name (found_in h f)) is)
    ∙ third (is_known h word) (is_known h (without_width word)) word (without_width word) (unwrap_or (only_name (found_in h (without_width word))) word) unknown (neither ∙ ap (is_known h) is)
