-- The sizes that an image may have (docs/images.md, "Layouts").
use Rattle.std.specs.Prelude.{ℕ, ◌+◌, ◌&&◌, nat_le, Option, Some, None, if◌then◌else◌}
use Rattle.envimg_core.specs.Bytes.{least_room, greatest_size}
use Rattle.envimg_core.specs.Geometry.{head}
use Rattle.envimg_core.specs.declared.geometry.Layout.TheVariants.{Single}

-- of a single image: a redundant copy has one byte more at least
abbrev pub least_size : ℕ
least_size = head Single + least_room

-- the size, if an image may have it; no value for any other number
abbrev pub copy_size : ℕ → Option ℕ
copy_size n = if nat_le least_size n && nat_le n greatest_size then Some n else None
