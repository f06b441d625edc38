-- Which places and sizes of a dump are looked at, and what counts as an environment (docs/tools.md, "Environments in a dump").
use Rattle.std.specs.Prelude.{ℕ, zero, suc, ◌+◌, ◌-◌, ◌/◌, ◌==◌, ◌&&◌, Bool, true, false, not, nat_le, nat_lt, if◌then◌else◌, List, [], ◌∷◌, ◌++◌, length, take, drop, Option, Some, None, option_and_then}
use Rattle.std.specs.Option.{option_or}
use Rattle.std.specs.FinMap.{entries}
use Rattle.envimg_core.specs.Bytes.{end_byte, equals, greatest_size, least_room}
use Rattle.envimg_core.specs.Checksum.{checksum}
use Rattle.envimg_core.specs.Geometry.{Shape, area_of, head}
use Rattle.envimg_core.specs.Order.{stored_checksum}
use Rattle.envimg_core.specs.Pieces.{entries_of, vars_of}
use Rattle.envimg_core.specs.State.{state_of}
use Rattle.envimg_core.specs.declared.geometry.Layout.{Layout}
use Rattle.envimg_core.specs.declared.geometry.Layout.TheVariants.{Single, Redundant}
use Rattle.envimg_core.specs.declared.geometry.Order.{Order}
use Rattle.envimg_core.specs.declared.geometry.Order.TheVariants.{Little, Big}
use Rattle.envimg_core.specs.declared.state.CopyState.{CopyState}
use Rattle.envimg_core.specs.declared.state.CopyState.TheVariants.{Good, BadLength, BadCrc, Unterminated}
use Rattle.dump_search.specs.declared.dump.Found.{Found}

-- ---- the entry at the front of a data area

-- printable, no blank and no `=`
abbrev pub is_name_byte : ℕ → Bool
is_name_byte b = nat_lt 32 b && nat_lt b 127 && not (b == equals)

-- what is left of a value: no control byte before the 0 that ends it
unfoldable pub ends_value : List ℕ → Bool
ends_value [] = false
ends_value (b ∷ bs) = if b == end_byte then true else if nat_lt b 32 then false else ends_value bs

-- what is left of a name, `=`, and a value
unfoldable pub ends_entry : List ℕ → Bool
ends_entry [] = false
ends_entry (b ∷ bs) = if b == equals then ends_value bs else if not (is_name_byte b) then false else ends_entry bs

-- a name, `=`, and a value
abbrev pub begins_entry : List ℕ → Bool
begins_entry [] = false
begins_entry (b ∷ bs) = is_name_byte b && ends_entry bs

-- ---- the copy at a place

-- `count` sizes, one every `step` bytes
abbrev pub sizes_from : (count size step : ℕ) → List ℕ
sizes_from zero size step = []
sizes_from (suc count) size step = size ∷ sizes_from count (size + step) step

-- each multiple of 512 bytes to 32 KiB, each multiple of 4 KiB to 256 KiB, 512 KiB and 1 MiB
abbrev pub sizes : List ℕ
sizes = sizes_from 64 512 512 ++ sizes_from 56 36864 4096 ++ 524288 ∷ 1048576 ∷ []

-- the byte order in which a copy begins with this checksum
abbrev pub order_with : List ℕ → ℕ → Option Order
order_with copy sum =
    if stored_checksum Little copy == sum then Some Little
    else if stored_checksum Big copy == sum then Some Big
    else None

abbrev pub if_good : CopyState → Shape → Option Shape
if_good (Good flag) shape = Some shape
if_good BadLength shape = None
if_good BadCrc shape = None
if_good Unterminated shape = None

-- the shape of a copy that is good in the byte order of its checksum
abbrev pub good_in : Layout → List ℕ → Order → Option Shape
good_in layout copy order =
    let shape : Shape = record { layout = layout; size = length copy; order = order } in if_good (state_of shape copy) shape

abbrev pub copy_as : Layout → List ℕ → Option Shape
copy_as layout copy = option_and_then (good_in layout copy) (order_with copy (checksum (drop (head layout) copy)))

-- the copy of this size that bytes begin with
abbrev pub copy_of_size : Layout → List ℕ → ℕ → Option Shape
copy_of_size layout bytes size =
    if nat_le (head layout + least_room) size && nat_le size greatest_size && nat_le size (length bytes) then copy_as layout (take size bytes)
    else None

-- that of the first of these sizes in which there is one
unfoldable pub copy_of_sizes : Layout → List ℕ → List ℕ → Option Shape
copy_of_sizes layout bytes [] = None
copy_of_sizes layout bytes (size ∷ more) = option_or (copy_of_size layout bytes size) (copy_of_sizes layout bytes more)

abbrev pub copy_of_layout : List ℕ → Layout → Option Shape
copy_of_layout bytes layout = if begins_entry (drop (head layout) bytes) then copy_of_sizes layout bytes sizes else None

-- the environment that bytes begin with: a single image, or else a copy with a flag
unfoldable pub environment_at : List ℕ → Option Shape
environment_at bytes = option_or (copy_of_layout bytes Single) (copy_of_layout bytes Redundant)

-- ---- all places

abbrev pub variable_count : List ℕ → ℕ
variable_count area = length (entries (vars_of (entries_of area)))

abbrev pub found_as : ℕ → Shape → List ℕ → CopyState → List Found
found_as start shape copy (Good flag) =
    record { start = start; geometry = shape; flag = flag; variables = variable_count (area_of shape copy) } ∷ []
found_as start shape copy BadLength = []
found_as start shape copy BadCrc = []
found_as start shape copy Unterminated = []

-- the environment that begins at a place, with its flag and the number of its variables
abbrev pub found_at : ℕ → List ℕ → Option Shape → List Found
found_at start bytes None = []
found_at start bytes (Some shape) = found_as start shape (take shape.size bytes) (state_of shape (take shape.size bytes))

-- a place every 512 bytes
abbrev pub place_step : ℕ
place_step = 512

-- how many places there are from one on
abbrev pub places_from : ℕ → List ℕ → ℕ
places_from start dump = (length dump - start + (place_step - 1)) / place_step

-- what begins at the next `count` places
unfoldable pub found_from : (count start : ℕ) → List ℕ → List Found
found_from zero start dump = []
found_from (suc count) start dump =
    found_at start (drop start dump) (environment_at (drop start dump)) ++ found_from count (start + place_step) dump

-- the environments of a dump
unfoldable pub environments : List ℕ → List Found
environments dump = found_from (places_from 0 dump) 0 dump
