-- What an image writer has written so far, and what room is left.
use Rattle.std.specs.Prelude.{ℕ, ◌+◌, ◌-◌, List, length, take, drop}
use base.Fml.{GName}
use Rattle.envimg_core.specs.Geometry.{Shape, head, room_of}
use Rattle.envimg_core.specs.declared.writer.ImageWriter.{ImageWriter}

-- the layout, the size and the byte order of the image that is written
abbrev pub shape_of : ImageWriter → Shape
shape_of w = w.geometry

-- the bytes of the entries that were put
abbrev pub written : ImageWriter → List ℕ
written w = take w.stored (drop (head w.geometry.layout) w.image.now)

-- which loan of a slice it writes into
abbrev pub loan_of : ImageWriter → GName
loan_of w = w.image.ghost_name

-- the bytes that further entries may take: what is left of the data area except the 0 that ends the list
abbrev pub room_left : ImageWriter → ℕ
room_left w = room_of (shape_of w) - (length (written w) + 1)
