-- What single steps of the code do; no promise speaks of it.
use Rattle.std.specs.Prelude.{◌≡◌, ℕ, ◌+◌, ◌<◌, if◌then◌else◌, length, take, drop, List, ◌∷◌, ◌++◌}
use Rattle.envimg_core.specs.Pieces.{entry_of, has_name, entries_of}

-- an area with a piece at its front: the piece's entry, if it has a name, comes before those of the rest
abbrev pub YieldsEntry : List ℕ → List ℕ → List ℕ → Type 0
YieldsEntry area piece rest =
    (entries_of area ≡ (if has_name (entry_of piece) then entry_of piece ∷ entries_of rest else entries_of rest))
    × (length rest < length area)

-- xs with these bytes written over it from place i on
abbrev pub spliced : ℕ → List ℕ → List ℕ → List ℕ
spliced i bytes xs = take i xs ++ bytes ++ drop (i + length bytes) xs
