-- The messages that name a variable (docs/tools.md, "The tools over a session").
use Rattle.std.specs.Prelude.{ℕ, List, [], ◌∷◌, ◌++◌, codes}

-- a message that ends with a name in quotes
abbrev pub about : List ℕ → List ℕ → List ℕ
about front name = front ++ name ++ (codes "\"" ++ 10 ∷ [])

-- the variable is not there
abbrev pub not_defined : List ℕ → List ℕ
not_defined name = codes "## Error: \"" ++ name ++ (codes "\" not defined" ++ 10 ∷ [])
