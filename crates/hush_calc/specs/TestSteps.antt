-- What the helpers read that go through the words of a test: steps of the code, and no part of what the crate promises.
use Rattle.std.specs.Prelude.{◌≡◌, ℕ, Bool, List, Option, Some, None}
use Rattle.hush_calc.specs.Test.{from_joint}

-- a value was read, and the words that are left go on after it; or what was read is no expression, whatever follows
abbrev pub Reads : ((Bool → Bool) → Option Bool) → List (List ℕ) → Option Bool → Type 0
Reads from rest (Some value) = (f : Bool → Bool) → from f ≡ from_joint (f value) rest
Reads from rest None = (f : Bool → Bool) → from f ≡ None
