-- The sizes of an image, and where its parts lie (docs/images.md, "Layouts").
use Rattle.std.specs.Prelude.{ℕ, ◌+◌, ◌-◌, ◌≤◌, List, drop}
use Rattle.envimg_core.specs.Bytes.{checksum_size, flag_size, least_room, greatest_size}
use Rattle.envimg_core.specs.declared.geometry.Layout.{Layout}
use Rattle.envimg_core.specs.declared.geometry.Layout.TheVariants.{Single, Redundant}
use Rattle.envimg_core.specs.declared.geometry.Order.{Order}

-- the bytes before the data area: the checksum, and the flag of a redundant copy
abbrev pub head : Layout → ℕ
head Single = checksum_size
head Redundant = checksum_size + flag_size

-- the sizes that an image of this layout may have: a data area that is not too short, and at most 1 MiB in all
abbrev pub IsSize : Layout → ℕ → Type 0
IsSize layout size = (head layout + least_room ≤ size) × (size ≤ greatest_size)

-- a layout, the size of one copy in bytes, and the byte order of its checksum
pub record Shape : Type 0 where
  pub layout : Layout
  pub size : ℕ
  pub order : Order

-- the length of the data area
abbrev pub room_of : Shape → ℕ
room_of shape = shape.size - head shape.layout

-- the data area of a copy
abbrev pub area_of : Shape → List ℕ → List ℕ
area_of shape copy = drop (head shape.layout) copy
