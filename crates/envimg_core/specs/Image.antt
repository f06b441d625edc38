-- A written image (docs/images.md, "Written images").
use Rattle.std.specs.Prelude.{ℕ, ◌+◌, ◌-◌, List, [], ◌∷◌, ◌++◌, length, replicate}
use Rattle.std.specs.List.{flat_map}
use Rattle.std.specs.FinMap.{entries}
use Rattle.envimg_core.specs.Bytes.{end_byte}
use Rattle.envimg_core.specs.Checksum.{checksum}
use Rattle.envimg_core.specs.Environment.{Environment, Pair, entry_text}
use Rattle.envimg_core.specs.Geometry.{Shape, room_of}
use Rattle.envimg_core.specs.Order.{checksum_bytes}
use Rattle.envimg_core.specs.declared.geometry.Layout.{Layout}
use Rattle.envimg_core.specs.declared.geometry.Layout.TheVariants.{Single, Redundant}
use Rattle.envimg_core.specs.declared.geometry.Order.{Order}

-- an entry as it is stored: name, '=', value, and the 0 that ends it
abbrev pub stored_pair : Pair → List ℕ
stored_pair p = entry_text p ++ end_byte ∷ []

abbrev pub stored_pairs : List Pair → List ℕ
stored_pairs ps = flat_map stored_pair ps

-- the entries' bytes, one more 0, and zeros to the end
abbrev pub filled_area : ℕ → List ℕ → List ℕ
filled_area room stored = stored ++ end_byte ∷ replicate (room - (length stored + 1)) end_byte

-- the flag byte, if the layout has one
abbrev pub flag_bytes : Layout → ℕ → List ℕ
flag_bytes Single flag = []
flag_bytes Redundant flag = flag ∷ []

-- the checksum of the area in this byte order, then the flag, then the area
abbrev pub framed : Layout → Order → ℕ → List ℕ → List ℕ
framed layout order flag area = checksum_bytes order (checksum area) ++ flag_bytes layout flag ++ area

-- the image that holds these entries' bytes
abbrev pub image_with : Shape → ℕ → List ℕ → List ℕ
image_with shape flag stored = framed shape.layout shape.order flag (filled_area (room_of shape) stored)

-- the image of an environment: its entries in ascending order of the names' bytes
abbrev pub image_of : Shape → ℕ → Environment → List ℕ
image_of shape flag env = image_with shape flag (stored_pairs (entries env))
