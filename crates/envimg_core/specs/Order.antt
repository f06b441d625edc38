-- The byte order of a stored checksum (docs/images.md, "Checksum").
use Rattle.std.specs.Prelude.{ℕ, List}
use Rattle.byteorder.specs.Endian.{little_number, big_number, little_bytes, big_bytes}
use Rattle.envimg_core.specs.Bytes.{checksum_size}
use Rattle.envimg_core.specs.declared.geometry.Order.{Order}
use Rattle.envimg_core.specs.declared.geometry.Order.TheVariants.{Little, Big}

-- the checksum at the front of a copy
abbrev pub stored_checksum : Order → List ℕ → ℕ
stored_checksum Little copy = little_number checksum_size copy
stored_checksum Big copy = big_number checksum_size copy

-- the bytes of a checksum
abbrev pub checksum_bytes : Order → ℕ → List ℕ
checksum_bytes Little sum = little_bytes checksum_size sum
checksum_bytes Big sum = big_bytes checksum_size sum
