-- Places that hold other data than a copy (docs/tools.md, "A copy over other data").
use Rattle.std.specs.Prelude.{ℕ, ◌==◌, ◌&&◌, nat_le, Bool, true, false, not, List, [], ◌∷◌, length, if◌then◌else◌}
use Rattle.envimg_core.specs.Geometry.{Shape, area_of}
use Rattle.envimg_core.specs.State.{state_of}
use Rattle.fw_engines.specs.Ways.{is_filled, is_good}

abbrev pub is_printable : ℕ → Bool
is_printable byte = nat_le 32 byte && nat_le byte 126

-- an entry goes on here; `named` if it has a byte of its name already
abbrev pub entry_from : (named : Bool) → List ℕ → Bool
entry_from named [] = false
entry_from named (b ∷ bs) = if b == 61 then named else (if is_printable b then entry_from true bs else false)

-- printable bytes, at least one, and then `=`
abbrev pub begins_with_entry : List ℕ → Bool
begins_with_entry area = entry_from false area

-- neither good nor erased, and no entry begins there
abbrev pub is_other_data : Shape → List ℕ → Bool
is_other_data shape copy =
    (length copy == shape.size)
    && (not (begins_with_entry (area_of shape copy)) && (not (is_filled 255 copy) && (not (is_filled 0 copy) && not (is_good (state_of shape copy)))))
