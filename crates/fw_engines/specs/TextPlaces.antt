-- Lines and columns of a text.
use Rattle.std.specs.Prelude.{ℕ, suc, ◌==◌, List, [], ◌∷◌, take, if◌then◌else◌}
use Rattle.fw_engines.specs.declared.text_places.Place.{Place}

-- a line and a column of a text, each from 1; a column is a byte
abbrev pub after_byte : Place → ℕ → Place
after_byte p b =
    if b == 10 then record { line = suc p.line; column = 1 } else record { line = p.line; column = suc p.column }

-- the place after these bytes
abbrev pub after_bytes : Place → List ℕ → Place
after_bytes p [] = p
after_bytes p (b ∷ bs) = after_bytes (after_byte p b) bs

-- the place after `count` bytes of a text
abbrev pub place_of : (text : List ℕ) → (count : ℕ) → Place
place_of text count = after_bytes (record { line = 1; column = 1 }) (take count text)
