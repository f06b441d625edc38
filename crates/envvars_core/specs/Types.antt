-- The types that the value of `.flags` gives variables, and which values have each (docs/variables.md, "Types").
use Rattle.std.specs.Prelude.{ℕ, ◌==◌, ◌||◌, ◌&&◌, Bool, true, not, List, length, drop, nat_le, nat_eq, codes}
use Rattle.std.specs.List.{slice_split, list_all, list_any, starts_with}
use Rattle.std.specs.Char.{is_ascii_digit, is_ascii_hexdigit}
use Rattle.envimg_core.specs.Environment.{is_empty}
use Rattle.envvars_core.specs.Bytes.{dot, colon}
use Rattle.envvars_core.specs.declared.types.Base.{Base}
use Rattle.envvars_core.specs.declared.types.Kind.{Kind}
use Rattle.envvars_core.specs.declared.types.Kind.TheVariants.{String, Decimal, Hexadecimal, Boolean, IpAddress, MacAddress}

-- the digits of a base
abbrev pub is_digit : Base → ℕ → Bool
is_digit Base.Decimal = is_ascii_digit
is_digit Base.Hexadecimal = is_ascii_hexdigit

-- one or more hexadecimal digits
abbrev pub is_hexadecimal : List ℕ → Bool
is_hexadecimal v = not (is_empty v) && list_all is_ascii_hexdigit v

-- `0x` or `0X`, and then one or more hexadecimal digits
abbrev pub is_prefixed_hexadecimal : List ℕ → Bool
is_prefixed_hexadecimal v =
    (starts_with nat_eq v (codes "0x") || starts_with nat_eq v (codes "0X")) && is_hexadecimal (drop 2 v)

-- a byte that says yes or no
abbrev pub is_truth : ℕ → Bool
is_truth b = list_any (λ c. b == c) (codes "1yYtT0nNfF")

-- one to `most` bytes, each of which passes the test
abbrev pub is_group : (ℕ → Bool) → ℕ → List ℕ → Bool
is_group test most group = nat_le 1 (length group) && nat_le (length group) most && list_all test group

-- this many groups, with the separator between them
abbrev pub are_groups : ℕ → ℕ → (List ℕ → Bool) → List ℕ → Bool
are_groups count separator test v =
    let groups = slice_split (λ b. b == separator) v in
    (length groups == count) && list_all test groups

-- whether a value has a type
abbrev pub has_type : Kind → List ℕ → Bool
has_type String v = true
has_type Decimal v = list_all is_ascii_digit v
has_type Hexadecimal v = is_hexadecimal v || is_prefixed_hexadecimal v
has_type Boolean v = (length v == 1) && list_all is_truth v
has_type IpAddress v = are_groups 4 dot (is_group is_ascii_digit 3) v
has_type MacAddress v = are_groups 6 colon (is_group is_ascii_hexdigit 2) v
