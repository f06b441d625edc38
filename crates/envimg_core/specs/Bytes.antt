-- The bytes and the bounds of the format, each named once (docs/images.md).
use Rattle.std.specs.Prelude.{ℕ}

-- the byte 0: it ends an entry and the list of entries, and fills the rest of a data area
abbrev pub end_byte : ℕ
end_byte = 0

-- `=`, which ends a name
abbrev pub equals : ℕ
equals = 61

-- the bytes of a checksum, at the front of a copy
abbrev pub checksum_size : ℕ
checksum_size = 4

-- the byte of a redundant copy's flag, after its checksum
abbrev pub flag_size : ℕ
flag_size = 1

-- the flag that counts up to 0
abbrev pub last_flag : ℕ
last_flag = 255

-- the bytes of the shortest data area
abbrev pub least_room : ℕ
least_room = 4

-- the bytes of the largest image: 1 MiB
abbrev pub greatest_size : ℕ
greatest_size = 1048576
