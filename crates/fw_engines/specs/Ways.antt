-- How bytes may be a good image when they aren't one as meant (docs/status.md).
use Rattle.std.specs.Prelude.{ℕ, ◌+◌, ◌==◌, ◌&&◌, Bool, true, false, not, nat_le, List, [], ◌∷◌, length, take, Option, Some, None, unwrap_or, if◌then◌else◌}
use Rattle.std.specs.List.{list_all}
use Rattle.std.specs.Option.{option_or}
use Rattle.envimg_core.specs.Bytes.{least_room, greatest_size}
use Rattle.envimg_core.specs.Geometry.{Shape, head}
use Rattle.envimg_core.specs.State.{state_of}
use Rattle.envimg_core.specs.declared.geometry.Layout.{Layout}
use Rattle.envimg_core.specs.declared.geometry.Layout.TheVariants.{Single, Redundant}
use Rattle.envimg_core.specs.declared.geometry.Order.{Order}
use Rattle.envimg_core.specs.declared.geometry.Order.TheVariants.{Little, Big}
use Rattle.envimg_core.specs.declared.state.CopyState.{CopyState}
use Rattle.envimg_core.specs.declared.state.CopyState.TheVariants.{Good, BadLength, BadCrc, Unterminated}
use Rattle.fw_engines.specs.declared.ways.Meant.{Meant}

abbrev pub is_good : CopyState → Bool
is_good (Good flag) = true
is_good BadLength = false
is_good BadCrc = false
is_good Unterminated = false

-- a size that an image of this layout may have
abbrev pub is_size : Layout → ℕ → Bool
is_size layout size = nat_le (head layout + least_room) size && nat_le size greatest_size

-- the first bytes are a good image of this shape
abbrev pub begins_well : List ℕ → Shape → Bool
begins_well bytes shape = is_size shape.layout shape.size && is_good (state_of shape (take shape.size bytes))

-- the shape, if they are
abbrev pub good_as : List ℕ → Shape → Option Shape
good_as bytes shape = if begins_well bytes shape then Some shape else None

abbrev pub other_layout : Layout → Layout
other_layout Single = Redundant
other_layout Redundant = Single

abbrev pub other_order : Order → Order
other_order Little = Big
other_order Big = Little

-- good in this byte order, or else in the other
abbrev pub in_either_order : List ℕ → Layout → Order → ℕ → Option Shape
in_either_order bytes layout order size =
    option_or (good_as bytes (record { layout = layout; size = size; order = order }))
    (good_as bytes (record { layout = layout; size = size; order = other_order order }))

-- good in this layout, or else in the other
unfoldable pub in_either_layout : List ℕ → Layout → Order → ℕ → Option Shape
in_either_layout bytes layout order size = option_or (in_either_order bytes layout order size) (in_either_order bytes (other_layout layout) order size)

-- the size that is meant, and the powers of two from 4 KiB to 1 MiB
abbrev pub likely_sizes : ℕ → List ℕ
likely_sizes meant = meant ∷ 4096 ∷ 8192 ∷ 16384 ∷ 32768 ∷ 65536 ∷ 131072 ∷ 262144 ∷ 524288 ∷ 1048576 ∷ []

-- good in the first of these sizes that fits
unfoldable pub in_some_size : List ℕ → Layout → Order → List ℕ → Option Shape
in_some_size bytes layout order [] = None
in_some_size bytes layout order (size ∷ sizes) = option_or (in_either_layout bytes layout order size) (in_some_size bytes layout order sizes)

-- the first way in which the bytes are good; if no layout is meant, a single image is tried first
unfoldable pub good_way : Meant → List ℕ → Option Shape
good_way meant bytes = in_some_size bytes (unwrap_or meant.layout Single) meant.order (likely_sizes meant.size)

abbrev pub are_all : ℕ → List ℕ → Bool
are_all byte bytes = list_all (λ b. b == byte) bytes

-- at least one byte, and each of them is this one
abbrev pub is_filled : ℕ → List ℕ → Bool
is_filled byte bytes = not (length bytes == 0) && are_all byte bytes
