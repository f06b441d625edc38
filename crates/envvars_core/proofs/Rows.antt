-- Worked values of the definitions, which the checker computes.
use Rattle.std.proofs.Common.{◌≡◌, ℕ, ◌+◌, Bool, true, false, ◌&&◌, List, [], ◌∷◌, ◌++◌, sum_by, Option, Some, None, refl, sym, ap, arith}
use Rattle.std.specs.Prelude.{codes, is_none, nat_lt, if◌then◌else◌}
use Rattle.std.specs.FinMap as env
use Rattle.std.specs.FinMap.{get-empty}
use Rattle.envimg_core.specs.Environment.{Environment, Pair, bytes_cmp, pair_size, used}
use Rattle.envvars_core.specs.Types.{has_type}
use Rattle.envvars_core.specs.Attributes.{attributes_in, attributes, flags_name, plain}
use Rattle.envvars_core.specs.Refusals.{given, holds_no_zero, access_refusal, forbidden, after, full, refusal}
use Rattle.envvars_core.specs.Steps.{attr_refusal}
use Rattle.envvars_core.specs.declared.types.Kind.TheVariants.{String, Decimal, Hexadecimal, Boolean, IpAddress, MacAddress}
use Rattle.envvars_core.specs.declared.attributes.Access.TheVariants.{Any, ReadOnly, WriteOnce, ChangeDefault}
use Rattle.envvars_core.specs.declared.attributes.Attr.{Attr}
use Rattle.envvars_core.specs.declared.refusals.Refusal.{Refusal}
use Rattle.envvars_core.specs.declared.refusals.Refusal.TheVariants.{BadForm, BadType, Full, NoCreate, NoDelete, NoOverwrite}
use Rattle.envvars_core.specs.Variables.{size_of}
use Rattle.envvars_core.proofs.CheckLemmas.{by_attr, refusal_is}
use Rattle.envvars_core.proofs.KeptLemmas.{attributes-empty, attributes_by}
use Rattle.envvars_core.proofs.SizeLemmas.{used-empty, used-remove, used-with_value}

-- types

hexadecimal_digits : has_type Hexadecimal (codes "1f") ≡ true
hexadecimal_digits = refl

no_hexadecimal_digits : has_type Hexadecimal (codes "zz") ≡ false
no_hexadecimal_digits = refl

prefixed_digits : has_type Hexadecimal (codes "0X1F") ≡ true
prefixed_digits = refl

bare_prefix : has_type Hexadecimal (codes "0x") ≡ false
bare_prefix = refl

decimal_digits : has_type Decimal (codes "0019") ≡ true
decimal_digits = refl

no_decimal_digits : has_type Decimal (codes "1f") ≡ false
no_decimal_digits = refl

one_truth : has_type Boolean (codes "T") ≡ true
one_truth = refl

two_truths : has_type Boolean (codes "11") ≡ false
two_truths = refl

four_groups : has_type IpAddress (codes "10.0.0.255") ≡ true
four_groups = refl

four_digits : has_type IpAddress (codes "1000.0.0.2") ≡ false
four_digits = refl

empty_group : has_type IpAddress (codes "10..0.2") ≡ false
empty_group = refl

six_groups : has_type MacAddress (codes "0:1a:2:3:4:ff") ≡ true
six_groups = refl

five_groups : has_type MacAddress (codes "0:1a:2:3:4") ≡ false
five_groups = refl

-- attributes

last_item_decides : attributes_in (codes "n:d,n:x") (codes "n") ≡ record { kind = Hexadecimal; access = Any }
unfolding attributes_in
last_item_decides = refl

write_once : attributes_in (codes "k:so") (codes "k") ≡ record { kind = String; access = WriteOnce }
unfolding attributes_in
write_once = refl

two_letters : attributes_in (codes "a:dr,b:x,,:s,b") (codes "a") ≡ record { kind = Decimal; access = ReadOnly }
unfolding attributes_in
two_letters = refl

item_without_letters : attributes_in (codes "a:dr,b:x,,:s,b") (codes "b") ≡ plain
unfolding attributes_in
item_without_letters = refl

blanks_around : attributes_in (codes " a : dr ,b") (codes "a") ≡ record { kind = Decimal; access = ReadOnly }
unfolding attributes_in
blanks_around = refl

blank_between : attributes_in (codes "a:d r") (codes "a") ≡ record { kind = Decimal; access = Any }
unfolding attributes_in
blank_between = refl

third_letter : attributes_in (codes "a:dcr") (codes "a") ≡ record { kind = Decimal; access = ChangeDefault }
unfolding attributes_in
third_letter = refl

unknown_type : attributes_in (codes "a:zr") (codes "a") ≡ record { kind = String; access = ReadOnly }
unfolding attributes_in
unknown_type = refl

unknown_letters : attributes_in (codes "a:r") (codes "a") ≡ plain
unfolding attributes_in
unknown_letters = refl

-- access

equal_value_of_write_once : access_refusal WriteOnce (Some (codes "1")) None (Some (codes "1")) ≡ Some NoOverwrite
equal_value_of_write_once = refl

default_changed : access_refusal ChangeDefault (Some (codes "1")) (Some (codes "1")) (Some (codes "2")) ≡ None
default_changed = refl

other_than_default : access_refusal ChangeDefault (Some (codes "2")) (Some (codes "1")) (Some (codes "3")) ≡ Some NoOverwrite
other_than_default = refl

without_default : access_refusal ChangeDefault (Some (codes "2")) None (Some (codes "3")) ≡ Some NoOverwrite
without_default = refl

default_deleted : access_refusal ChangeDefault (Some (codes "1")) (Some (codes "1")) None ≡ Some NoDelete
default_deleted = refl

read_only_created : access_refusal ReadOnly None None (Some (codes "1")) ≡ Some NoCreate
read_only_created = refl

forced : forbidden true ReadOnly None None (Some (codes "1")) ≡ None
forced = refl

-- the room: `a=b` takes 5 bytes in an empty environment

five_bytes : used (env.insert env.empty (codes "a") (codes "b")) ≡ 5
five_bytes =
    let absent = ap (λ (o : Option (List ℕ)). size_of (codes "a") o) (get-empty bytes_cmp (codes "a")) in
    omega (arith, used-empty, absent, used-remove env.empty (codes "a"), used-with_value env.empty (codes "a") (Some (codes "b")))

sized : (room : ℕ) → (if nat_lt room 5 then Some Full else None) ≡ refusal env.empty env.empty room (codes "a") (Some (codes "b")) false
sized room =
    refusal_is env.empty env.empty room (codes "a") (Some (codes "b")) false true false None (if nat_lt room 5 then Some Full else None)
    refl
    (ap (λ (o : Option (List ℕ)). is_none o && false) (sym (get-empty bytes_cmp (codes "a"))))
    (λ i. attr_refusal false (attributes-empty (codes "a") i) (sym (get-empty {X = List ℕ} bytes_cmp (codes "a")) i) (sym (get-empty {X = List ℕ} bytes_cmp (codes "a")) i) (Some (codes "b")))
    (ap (λ u. if nat_lt room u then Some Full else None) (sym five_bytes))

no_room : refusal env.empty env.empty 4 (codes "a") (Some (codes "b")) false ≡ Some Full
no_room = sym (sized 4)

room_for_it : refusal env.empty env.empty 5 (codes "a") (Some (codes "b")) false ≡ None
room_for_it = sym (sized 5)

-- the order of the checks: each of these writes has more than one reason to be refused.
-- `n` is decimal and read-only, `n=` decimal, and the variables take 22 bytes

decimal : Attr
decimal = record { kind = Decimal; access = ReadOnly }

flagged_entries : List Pair
flagged_entries = (flags_name, codes "n:dr,n=:d") ∷ (codes "n", codes "1") ∷ []

flagged : Environment
flagged = env.from_sorted flagged_entries

got_flags : env.get flagged flags_name ≡ Some (codes "n:dr,n=:d")
unfolding flagged flagged_entries
got_flags = env.get-from_sorted bytes_cmp flagged_entries flags_name tt

got_n : env.get flagged (codes "n") ≡ Some (codes "1")
unfolding flagged flagged_entries
got_n = env.get-from_sorted bytes_cmp flagged_entries (codes "n") tt

attributes_of_n : decimal ≡ attributes flagged (codes "n")
unfolding decimal attributes_in
attributes_of_n = attributes_by flagged (Some (codes "n:dr,n=:d")) (codes "n") (sym got_flags)

attributes_of_no_name : record { kind = Decimal; access = Any } ≡ attributes flagged (codes "n=")
unfolding attributes_in
attributes_of_no_name = attributes_by flagged (Some (codes "n:dr,n=:d")) (codes "n=") (sym got_flags)

used_flagged : used flagged ≡ 22
unfolding flagged flagged_entries
used_flagged = ap (λ (es : List Pair). sum_by pair_size es + 1) (env.entries-from_sorted bytes_cmp flagged_entries tt)

name_before_type : (force : Bool) → refusal flagged env.empty 22 (codes "n=") (Some (codes "x")) force ≡ Some BadForm
name_before_type force = sym (refusal_is flagged env.empty 22 (codes "n=") (Some (codes "x")) force false _ _ _ refl refl refl refl)

value_before_type : (force : Bool) → refusal flagged env.empty 22 (codes "n") (Some (codes "x" ++ 0 ∷ [])) force ≡ Some BadForm
value_before_type force = sym (refusal_is flagged env.empty 22 (codes "n") (Some (codes "x" ++ 0 ∷ [])) force false _ _ _ refl refl refl refl)

-- a write of `n` that has its forms
write_of_n : (v : List ℕ) (force : Bool) (size : Option Refusal) → true ≡ holds_no_zero (Some v) → size ≡ full 22 (after flagged (codes "n") (Some v)) → by_attr true false (attr_refusal force decimal (Some (codes "1")) None (given (Some v))) size ≡ refusal flagged env.empty 22 (codes "n") (Some v) force
write_of_n v force size f s =
    refusal_is flagged env.empty 22 (codes "n") (Some v) force true false (attr_refusal force decimal (Some (codes "1")) None (given (Some v))) size f
    (ap (λ (o : Option (List ℕ)). is_none o && is_none (given (Some v))) (sym got_n))
    (λ i. attr_refusal force (attributes_of_n i) (sym got_n i) (sym (get-empty {X = List ℕ} bytes_cmp (codes "n")) i) (given (Some v)))
    s

type_before_access : refusal flagged env.empty 22 (codes "n") (Some (codes "xx")) false ≡ Some BadType
unfolding decimal
type_before_access = sym (write_of_n (codes "xx") false _ refl refl)

type_where_forced : refusal flagged env.empty 22 (codes "n") (Some (codes "xx")) true ≡ Some BadType
unfolding decimal
type_where_forced = sym (write_of_n (codes "xx") true _ refl refl)

access_before_size : refusal flagged env.empty 22 (codes "n") (Some (codes "22")) false ≡ Some NoOverwrite
unfolding decimal
access_before_size = sym (write_of_n (codes "22") false _ refl refl)

-- one byte more than before, which the room of 22 doesn't hold
size_of_two_digits : used (after flagged (codes "n") (Some (codes "22"))) ≡ 23
size_of_two_digits =
    let old = ap (λ (o : Option (List ℕ)). size_of (codes "n") o) got_n in
    omega (arith, old, used_flagged, used-remove flagged (codes "n"), used-with_value flagged (codes "n") (Some (codes "22")))

size_where_forced : refusal flagged env.empty 22 (codes "n") (Some (codes "22")) true ≡ Some Full
unfolding decimal
size_where_forced = sym (write_of_n (codes "22") true (Some Full) refl (ap (λ u. if nat_lt 22 u then Some Full else None) (sym size_of_two_digits)))

size_of_one_digit : used (after flagged (codes "n") (Some (codes "2"))) ≡ 22
size_of_one_digit =
    let old = ap (λ (o : Option (List ℕ)). size_of (codes "n") o) got_n in
    omega (arith, old, used_flagged, used-remove flagged (codes "n"), used-with_value flagged (codes "n") (Some (codes "2")))

forced_and_fitting : refusal flagged env.empty 22 (codes "n") (Some (codes "2")) true ≡ None
unfolding decimal
forced_and_fitting = sym (write_of_n (codes "2") true None refl (ap (λ u. if nat_lt 22 u then Some Full else None) (sym size_of_one_digit)))
