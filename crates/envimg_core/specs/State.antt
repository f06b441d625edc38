-- The state of a stored copy, and which of two copies is current (docs/images.md, "State of a copy" and "Choice").
use Rattle.std.specs.Prelude.{ℕ, ◌==◌, ◌&&◌, Bool, not, nat_lt, if◌then◌else◌, List, length, Option, None, unwrap_or}
use Rattle.std.specs.List.{slice_get}
use Rattle.envimg_core.specs.Bytes.{checksum_size, last_flag}
use Rattle.envimg_core.specs.Checksum.{checksum}
use Rattle.envimg_core.specs.Geometry.{Shape, area_of}
use Rattle.envimg_core.specs.Order.{stored_checksum}
use Rattle.envimg_core.specs.Pieces.{is_terminated}
use Rattle.envimg_core.specs.declared.geometry.Layout.{Layout}
use Rattle.envimg_core.specs.declared.geometry.Layout.TheVariants.{Single, Redundant}
use Rattle.envimg_core.specs.declared.state.CopyState.{CopyState}
use Rattle.envimg_core.specs.declared.state.CopyState.TheVariants.{Good, BadLength, BadCrc, Unterminated}
use Rattle.envimg_core.specs.declared.choice.Choice.{Choice}
use Rattle.envimg_core.specs.declared.choice.Choice.TheVariants.{First, Second, Neither}

-- the flag byte of a redundant copy is after the checksum; a single image has no flag
abbrev pub flag_byte : Layout → List ℕ → Option ℕ
flag_byte Single copy = None
flag_byte Redundant copy = slice_get copy checksum_size

-- the flag that a copy shows: if it has none, 0
abbrev pub flag_of : Layout → List ℕ → ℕ
flag_of layout copy = unwrap_or (flag_byte layout copy) 0

abbrev pub has_checksum : Shape → List ℕ → Bool
has_checksum shape copy = stored_checksum shape.order copy == checksum (area_of shape copy)

-- the first fault that applies, else good
abbrev pub state_of : Shape → List ℕ → CopyState
state_of shape copy =
    if not (length copy == shape.size) then BadLength
    else if not (has_checksum shape copy) then BadCrc
    else if not (is_terminated (area_of shape copy)) then Unterminated
    else Good (flag_of shape.layout copy)

-- two good copies: the larger flag, but 0 comes after the last; of equal flags the first
abbrev pub choice_by_flags : ℕ → ℕ → Choice
choice_by_flags first second =
    if first == last_flag && second == 0 then Second
    else if first == 0 && second == last_flag then First
    else if nat_lt first second then Second
    else First

abbrev pub choice_of : CopyState → CopyState → Choice
choice_of (Good first) (Good second) = choice_by_flags first second
choice_of (Good first) BadLength = First
choice_of (Good first) BadCrc = First
choice_of (Good first) Unterminated = First
choice_of BadLength (Good second) = Second
choice_of BadCrc (Good second) = Second
choice_of Unterminated (Good second) = Second
choice_of _ _ = Neither
