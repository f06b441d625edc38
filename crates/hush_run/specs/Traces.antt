-- The commands of a run as a text (docs/dry-runs.md, "A trace").
use Rattle.std.specs.Prelude.{◌≡◌, ℕ, List, [], ◌∷◌, ◌++◌, codes, MatchBool}
use Rattle.std.specs.Fmt.{decimal}
use Rattle.fw_engines.specs.declared.text_places.Place.{Place}
use Rattle.hush_run.specs.declared.trace.Trace.{Trace}

-- an assignment, as it is written
abbrev pub assignment_of : (name value : List ℕ) → List ℕ
assignment_of name value = name ++ codes "=" ++ value

-- the line of a command of these words that begins at a place of the text of this name
abbrev pub traced_line : (name : List ℕ) → Place → (words : List ℕ) → List ℕ
traced_line name place words = name ++ codes ":" ++ decimal place.line ++ codes ":" ++ decimal place.column ++ codes ": " ++ words ++ 10 ∷ []

-- this line is appended, or the lines end before it
abbrev pub Notes : (line : List ℕ) → Trace → Trace → Type 0
Notes line old new = MatchBool new.goes_on (new.text.items ≡ old.text.items ++ line) (new.text.items ≡ old.text.items)
