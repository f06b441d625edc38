-- Stand-ins.
use Rattle.std.proofs.Common.{◌≡◌, ℕ, List, Vec, Option, Some, None, is_some, refl, sym, ap, ◌∙◌, true, false}
use Rattle.std.specs.Prelude.{Ok, Err, option_map}
use Rattle.std.proofs.lemmas.Bool.{cond-true, cond-false}
use Rattle.std.specs.FinMap as names
use Rattle.std.specs.Map.{lookup}
use Rattle.std.specs.BTreeMap.{insert_entry}
use Rattle.std.specs.declared.alloc.Global.{Global}
use Rattle.hush_commands.specs.declared.departure.Leaving.{Leaving}
use Rattle.hush_commands.specs.declared.stand_ins.Role.{Role}
use Rattle.hush_commands.specs.declared.stand_in_line.StubFault.TheVariants.{Twice}
use Rattle.hush_commands.specs.Entries.{Entry, role_view}
use Rattle.hush_commands.specs.Stubs.{Statuses, with_stand_in, leaving_by}
use Rattle.hush_commands.proofs.EntryLemmas.{is_called, key_order, get-value, insert-value, map_of, AreSorted}

same_role : (o : Option Role) → o ≡ option_map role_view o
same_role None = refl
same_role (Some role) = refl

pub get-role : (es : List (Entry Role)) (m : Statuses) (n : List ℕ) → AreSorted role_view es → map_of role_view es ≡ m → lookup (is_called n) es ≡ names.get m n
get-role es m n h at = same_role (lookup (is_called n) es) ∙ get-value role_view es m n h at

-- what a stand-in adds, by what its name had in the table
pub had-one : (number : ℕ) (es : List (Entry Role)) (m : Statuses) (n : List ℕ) (status : ℕ) (old : Role) → AreSorted role_view es → map_of role_view es ≡ m →
    Some old ≡ lookup (is_called n) es → with_stand_in number m n status ≡ Err (Twice number)
had-one number es m n status old h at was = cond-true _ _ _ (ap is_some (sym (was ∙ get-role es m n h at)))

pub added : (number : ℕ) (es new : List (Entry Role)) (m : Statuses) (k : Vec ℕ Global) (status : ℕ) → AreSorted role_view es → map_of role_view es ≡ m →
    None ≡ lookup (is_called k.items) es → new ≡ insert_entry key_order es k (record { status = status; leaves = None }) → with_stand_in number m k.items status ≡ Ok (map_of role_view new)
added number es new m k status h at was is =
    cond-false _ _ _ (ap is_some (sym (was ∙ get-role es m k.items h at)))
    ∙ ap Ok (sym (ap (map_of role_view) is ∙ insert-value role_view es m k (record { status = status; leaves = None }) h at))

-- a stand-in that leaves the board from now on
pub leaves_so : (leaving : Leaving) (es new : List (Entry Role)) (m : Statuses) (k : Vec ℕ Global) (n : List ℕ) (status : ℕ) → AreSorted role_view es → map_of role_view es ≡ m →
    k.items ≡ n → new ≡ insert_entry key_order es k (record { status = status; leaves = Some leaving }) → map_of role_view new ≡ leaving_by leaving m n (Some status)
leaves_so leaving es new m k n status h at named is =
    ap (map_of role_view) is
    ∙ insert-value role_view es m k (record { status = status; leaves = Some leaving }) h at
    ∙ ap (λ (name : List ℕ). leaving_by leaving m name (Some status)) named
