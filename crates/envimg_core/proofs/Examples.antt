-- Published and worked examples, computed by the checker from the definitions alone.
use Rattle.std.proofs.Common.{◌≡◌, ℕ, List, [], ◌∷◌, Some, None, refl, ◌++◌, replicate}
use Rattle.std.specs.Prelude.{codes}
use Rattle.envimg_core.specs.Checksum.{checksum, divide}
use Rattle.envimg_core.specs.Geometry.{Shape, area_of}
use Rattle.envimg_core.specs.Image.{image_with, stored_pairs}
use Rattle.envimg_core.specs.Pieces.{entries_of}
use Rattle.envimg_core.specs.State.{state_of, choice_of}
use Rattle.envimg_core.specs.declared.geometry.Layout.TheVariants.{Single, Redundant}
use Rattle.envimg_core.specs.declared.geometry.Order.TheVariants.{Little, Big}
use Rattle.envimg_core.specs.declared.state.CopyState.TheVariants.{Good, BadLength, BadCrc, Unterminated}
use Rattle.envimg_core.specs.declared.choice.Choice.TheVariants.{Second}

abbrev single : ℕ → Shape
single size = record { layout = Single; size = size; order = Little }

abbrev redundant : ℕ → Shape
redundant size = record { layout = Redundant; size = size; order = Little }

abbrev big : Shape → Shape
big shape = record shape { order = Big }

-- the check value of CRC-32 in every catalogue
check_value : checksum (codes "123456789") ≡ 0xCBF43926
unfolding checksum divide
check_value = refl

checksum_of_nothing : checksum [] ≡ 0
unfolding checksum divide
checksum_of_nothing = refl

-- one variable, a=b
abbrev one_variable : List ℕ
one_variable = 0xD2 ∷ 0x96 ∷ 0x62 ∷ 0x2B ∷ 0x61 ∷ 0x3D ∷ 0x62 ∷ 0 ∷ 0 ∷ []

one_variable_good : state_of (single 9) one_variable ≡ Good 0
unfolding checksum divide
one_variable_good = refl

one_variable_entries : entries_of (area_of (single 9) one_variable) ≡ (codes "a", Some (codes "b")) ∷ []
unfolding entries_of
one_variable_entries = refl

one_variable_written : image_with (single 9) 0 (stored_pairs ((codes "a", codes "b") ∷ [])) ≡ one_variable
unfolding checksum divide
one_variable_written = refl

-- an empty environment
empty_good : state_of (single 8) (0x1C ∷ 0xDF ∷ 0x44 ∷ 0x21 ∷ 0 ∷ 0 ∷ 0 ∷ 0 ∷ []) ≡ Good 0
unfolding checksum divide
empty_good = refl

-- right checksum, no end; wrong checksum; wrong length
abbrev digits : List ℕ
digits = 0x39 ∷ 0xF4 ∷ 0xCB ∷ codes "123456789"

not_ended : state_of (single 13) (0x26 ∷ digits) ≡ Unterminated
unfolding checksum divide
not_ended = refl

other_checksum : state_of (single 13) (0x27 ∷ digits) ≡ BadCrc
unfolding checksum divide
other_checksum = refl

too_short : state_of (single 13) digits ≡ BadLength
unfolding checksum divide
too_short = refl

-- two copies: the flag is after the checksum and is no part of what it covers; 0 comes after 255
flags_wrap : choice_of (state_of (redundant 9) (0x1C ∷ 0xDF ∷ 0x44 ∷ 0x21 ∷ 0xFF ∷ 0 ∷ 0 ∷ 0 ∷ 0 ∷ [])) (state_of (redundant 9) (0x1C ∷ 0xDF ∷ 0x44 ∷ 0x21 ∷ 0 ∷ 0 ∷ 0 ∷ 0 ∷ 0 ∷ [])) ≡ Second
unfolding checksum divide
flags_wrap = refl

saved_again : image_with (redundant 10) 8 (stored_pairs ((codes "a", codes "b") ∷ [])) ≡ 0xD2 ∷ 0x96 ∷ 0x62 ∷ 0x2B ∷ 8 ∷ 0x61 ∷ 0x3D ∷ 0x62 ∷ 0 ∷ 0 ∷ []
unfolding checksum divide
saved_again = refl

-- the same on big-endian boards: the checksum's bytes are turned round, and nothing else
abbrev one_variable_big : List ℕ
one_variable_big = 0x2B ∷ 0x62 ∷ 0x96 ∷ 0xD2 ∷ 0x61 ∷ 0x3D ∷ 0x62 ∷ 0 ∷ 0 ∷ []

big_good : state_of (big (single 9)) one_variable_big ≡ Good 0
unfolding checksum divide
big_good = refl

big_read_as_little : state_of (single 9) one_variable_big ≡ BadCrc
unfolding checksum divide
big_read_as_little = refl

little_read_as_big : state_of (big (single 9)) one_variable ≡ BadCrc
unfolding checksum divide
little_read_as_big = refl

big_written : image_with (big (single 9)) 0 (stored_pairs ((codes "a", codes "b") ∷ [])) ≡ one_variable_big
unfolding checksum divide
big_written = refl

big_flags_wrap : choice_of (state_of (big (redundant 9)) (0x21 ∷ 0x44 ∷ 0xDF ∷ 0x1C ∷ 0xFF ∷ 0 ∷ 0 ∷ 0 ∷ 0 ∷ [])) (state_of (big (redundant 9)) (0x21 ∷ 0x44 ∷ 0xDF ∷ 0x1C ∷ 0 ∷ 0 ∷ 0 ∷ 0 ∷ 0 ∷ [])) ≡ Second
unfolding checksum divide
big_flags_wrap = refl

erased_big : state_of (big (redundant 9)) (replicate 9 0xFF) ≡ Unterminated
unfolding checksum divide
erased_big = refl

erased_little : state_of (redundant 9) (replicate 9 0xFF) ≡ Unterminated
unfolding checksum divide
erased_little = refl

-- a name twice, a name without '=', an empty value
repeated_names : entries_of (codes "a=1" ++ 0 ∷ codes "a=2" ++ 0 ∷ codes "b" ++ 0 ∷ codes "c=" ++ 0 ∷ 0 ∷ []) ≡ (codes "a", Some (codes "1")) ∷ (codes "a", Some (codes "2")) ∷ (codes "b", None) ∷ (codes "c", None) ∷ []
unfolding entries_of
repeated_names = refl
