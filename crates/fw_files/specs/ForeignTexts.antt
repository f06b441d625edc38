-- What is given in the place of a text and is none (docs/tools.md, "Subcommands over files").
use Rattle.std.specs.Prelude.{ℕ, ◌&&◌, ◌||◌, Bool, nat_eq, List, [], ◌∷◌, Option, Some, None, length, codes, if◌then◌else◌}
use Rattle.std.specs.List.{list_any, starts_with}
use Rattle.envimg_core.specs.Environment.{is_zero}
use Rattle.envimg_core.specs.Geometry.{Shape}
use Rattle.envimg_core.specs.State.{state_of}
use Rattle.envimg_core.specs.declared.geometry.Layout.{Layout}
use Rattle.envimg_core.specs.declared.geometry.Layout.TheVariants.{Single, Redundant}
use Rattle.envimg_core.specs.declared.geometry.Order.{Order}
use Rattle.envimg_core.specs.declared.geometry.Order.TheVariants.{Little, Big}
use Rattle.fw_engines.specs.Ways.{is_good, is_size}
use Rattle.fw_files.specs.declared.foreign_texts.Foreign.{Foreign}
use Rattle.fw_files.specs.declared.foreign_texts.Foreign.TheVariants.{Image, Mkimage, Utf16, Marked}

abbrev pub shape_of : List ℕ → Layout → Order → Shape
shape_of bytes layout order = record { layout = layout; size = length bytes; order = order }

-- all the bytes are a good copy of this layout and byte order
abbrev pub image_as : List ℕ → Layout → Order → Bool
image_as bytes layout order = is_size layout (length bytes) && is_good (state_of (shape_of bytes layout order) bytes)

-- of either layout and byte order; each has a 0
abbrev pub is_image : List ℕ → Bool
is_image bytes =
    list_any is_zero bytes && (image_as bytes Single Little || image_as bytes Single Big || image_as bytes Redundant Little || image_as bytes Redundant Big)

-- the number that a file of mkimage begins with
abbrev pub is_mkimage : List ℕ → Bool
is_mkimage bytes = starts_with nat_eq bytes (39 ∷ 5 ∷ 25 ∷ 86 ∷ [])

-- the byte order mark in UTF-16, and in UTF-8
abbrev pub is_utf16 : List ℕ → Bool
is_utf16 bytes = starts_with nat_eq bytes (255 ∷ 254 ∷ []) || starts_with nat_eq bytes (254 ∷ 255 ∷ [])

abbrev pub is_marked : List ℕ → Bool
is_marked bytes = starts_with nat_eq bytes (239 ∷ 187 ∷ 191 ∷ [])

-- what bytes are that are no text
abbrev pub foreign_in : List ℕ → Option Foreign
foreign_in bytes =
    if is_mkimage bytes then Some Mkimage
    else if is_utf16 bytes then Some Utf16
    else if is_marked bytes then Some Marked
    else if is_image bytes then Some Image
    else None

-- what follows the path of its file
abbrev pub foreign_ending : Foreign → List ℕ
foreign_ending Image = codes ": this is an image of an environment, not a text\n"
foreign_ending Mkimage = codes ": this is an image of mkimage, as boot.scr is, not a text\n"
foreign_ending Utf16 = codes ": this text is in UTF-16\n"
foreign_ending Marked = codes ": this text begins with a byte order mark\n"
