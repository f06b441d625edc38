-- The attributes of a variable, its type and its access, as the value of `.flags` gives them
-- (docs/variables.md, "The variable .flags").
use Rattle.std.specs.Prelude.{ℕ, ◌-◌, ◌==◌, ◌||◌, Bool, not, List, [], ◌∷◌, length, take, drop, map, filter, find, reverse, Option, unwrap_or, codes, if◌then◌else◌}
use Rattle.std.specs.List.{slice_split, before_first, after_first, prefix_len, suffix_len}
use Rattle.std.specs.Option.{option_map}
use Rattle.std.specs.Ordering.{eq_by_cmp}
use Rattle.std.specs.FinMap.{get}
use Rattle.envimg_core.specs.Environment.{Environment, bytes_cmp, is_empty}
use Rattle.envvars_core.specs.Bytes.{comma, colon, space, tab, decimal_letter, hexadecimal_letter, boolean_letter, ip_address_letter, mac_address_letter, read_only_letter, write_once_letter, change_default_letter}
use Rattle.envvars_core.specs.declared.types.Kind.{Kind}
use Rattle.envvars_core.specs.declared.types.Kind.TheVariants.{String, Decimal, Hexadecimal, Boolean, IpAddress, MacAddress}
use Rattle.envvars_core.specs.declared.attributes.Access.{Access}
use Rattle.envvars_core.specs.declared.attributes.Access.TheVariants.{Any, ReadOnly, WriteOnce, ChangeDefault}
use Rattle.envvars_core.specs.declared.attributes.Attr.{Attr}

-- the name of the variable that gives the attributes
abbrev pub flags_name : List ℕ
flags_name = codes ".flags"

abbrev pub is_comma : ℕ → Bool
is_comma b = b == comma

abbrev pub is_colon : ℕ → Bool
is_colon b = b == colon

-- a space or a tab
abbrev pub is_blank : ℕ → Bool
is_blank b = (b == space) || (b == tab)

abbrev pub without_leading_blanks : List ℕ → List ℕ
without_leading_blanks text = drop (prefix_len is_blank text) text

abbrev pub without_trailing_blanks : List ℕ → List ℕ
without_trailing_blanks text = take (length text - suffix_len is_blank text) text

abbrev pub trimmed : List ℕ → List ℕ
trimmed text = without_trailing_blanks (without_leading_blanks text)

-- what a letter means by a table; an unknown one means the other thing
abbrev pub meaning : {A : Type 0} → List (ℕ × A) → A → ℕ → A
meaning [] other c = other
meaning ((letter, meant) ∷ rows) other c = if c == letter then meant else meaning rows other c

abbrev pub kinds : List (ℕ × Kind)
kinds =
    (decimal_letter, Decimal) ∷
    (hexadecimal_letter, Hexadecimal) ∷
    (boolean_letter, Boolean) ∷
    (ip_address_letter, IpAddress) ∷
    (mac_address_letter, MacAddress) ∷ []

abbrev pub accesses : List (ℕ × Access)
accesses =
    (read_only_letter, ReadOnly) ∷
    (write_once_letter, WriteOnce) ∷
    (change_default_letter, ChangeDefault) ∷ []

-- the type that a letter means: an unknown one means a string
abbrev pub kind_of : ℕ → Kind
kind_of = meaning kinds String

-- the access that a letter means: an unknown one means any
abbrev pub access_of : ℕ → Access
access_of = meaning accesses Any

-- what a variable has that no item names
abbrev pub plain : Attr
plain = record { kind = String; access = Any }

-- a letter for the type and one for the access: if one is missing, a string and any, and what follows is ignored
abbrev pub attr_of : List ℕ → Attr
attr_of [] = plain
attr_of (t ∷ []) = record { kind = kind_of t; access = Any }
attr_of (t ∷ a ∷ more) = record { kind = kind_of t; access = access_of a }

-- a name and its attributes
abbrev pub FlagsItem : Type 0
FlagsItem = List ℕ × Attr

-- the name is before the first ':', the attributes after it, without the blanks around either
abbrev pub item_of : List ℕ → FlagsItem
item_of piece = (trimmed (before_first is_colon piece), attr_of (trimmed (after_first is_colon piece)))

abbrev pub names_one : FlagsItem → Bool
names_one item = not (is_empty item.0)

-- the items of a text: what is between its commas, except items with an empty name
abbrev pub flags_items : List ℕ → List FlagsItem
flags_items text = filter names_one (map item_of (slice_split is_comma text))

-- the attributes of the first item for a name, if there is one
abbrev pub found_among : List FlagsItem → List ℕ → Option Attr
found_among items n = option_map (λ item. item.1) (find (λ item. eq_by_cmp bytes_cmp n item.0) items)

-- the attributes of the first item for a name; a string and any if there is none
abbrev pub attr_among : List FlagsItem → List ℕ → Attr
attr_among items n = unwrap_or (found_among items n) plain

-- the attributes that a text gives a name: those of the last item for it
unfoldable pub attributes_in : List ℕ → List ℕ → Attr
attributes_in text n = attr_among (reverse (flags_items text)) n

-- the attributes of a name in an environment: those that the value of `.flags` gives it
unfoldable pub attributes : Environment → List ℕ → Attr
attributes env n = attributes_in (unwrap_or (get env flags_name) []) n
