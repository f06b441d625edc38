-- Copies that are good in another way than the configuration has them (docs/tools.md, "A good copy is not written over").
use Rattle.std.specs.Prelude.{ℕ, List, [], ◌∷◌, take, codes, Option, None, option_map, if◌then◌else◌}
use Rattle.std.specs.List.{concat}
use Rattle.std.specs.Option.{option_or, option_and_then}
use Rattle.envimg_core.specs.Geometry.{Shape}
use Rattle.fw_engines.specs.CopyStatus.{meant_by, way_words}
use Rattle.fw_engines.specs.Ways.{good_way, is_filled}
use Rattle.fw_engines.specs.declared.ways.Meant.{Meant}

-- the way that a hint of `status` names, of bytes that aren't good as they are meant; erased ones are good in none
unfoldable pub other_way : Meant → List ℕ → Option Shape
other_way meant bytes =
    if is_filled 255 (take meant.size bytes) then None
    else if is_filled 0 (take meant.size bytes) then None
    else good_way meant bytes

-- the line about a copy that is good in this way
abbrev pub misread_line : (which : List ℕ) → Meant → Shape → List ℕ
misread_line which meant way = concat (codes "fwenv: nothing is written: the " ∷ which ∷ codes " copy is" ∷ way_words meant way ∷ (10 ∷ []) ∷ [])

abbrev pub misread_copy : (which : List ℕ) → Meant → List ℕ → Option (List ℕ)
misread_copy which meant bytes = option_map (misread_line which meant) (other_way meant bytes)

-- the line about the first of two copies that is good in another way, of which none is good as the configuration has it;
-- each with what follows it in its device
abbrev pub misread : Shape → (first : List ℕ) → (second : Option (List ℕ)) → Option (List ℕ)
misread shape first second =
    option_or (misread_copy (codes "first") (meant_by shape) first) (option_and_then (misread_copy (codes "second") (meant_by shape)) second)
