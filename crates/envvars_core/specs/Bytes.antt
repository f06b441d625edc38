-- The bytes that the value of `.flags` and the types tell apart, each named once (docs/variables.md).
use Rattle.std.specs.Prelude.{ℕ}

-- `,`, which ends an item
abbrev pub comma : ℕ
comma = 44

-- `:`, which ends the name of an item, and a group of a MAC address
abbrev pub colon : ℕ
colon = 58

-- `.`, which ends a group of an IP address
abbrev pub dot : ℕ
dot = 46

abbrev pub space : ℕ
space = 32

abbrev pub tab : ℕ
tab = 9

-- `d`
abbrev pub decimal_letter : ℕ
decimal_letter = 100

-- `x`
abbrev pub hexadecimal_letter : ℕ
hexadecimal_letter = 120

-- `b`
abbrev pub boolean_letter : ℕ
boolean_letter = 98

-- `i`
abbrev pub ip_address_letter : ℕ
ip_address_letter = 105

-- `m`
abbrev pub mac_address_letter : ℕ
mac_address_letter = 109

-- `r`
abbrev pub read_only_letter : ℕ
read_only_letter = 114

-- `o`
abbrev pub write_once_letter : ℕ
write_once_letter = 111

-- `c`
abbrev pub change_default_letter : ℕ
change_default_letter = 99
