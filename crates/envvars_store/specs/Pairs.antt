-- Variables that are lent.
use Rattle.std.specs.Prelude.{ℕ, List}
use Rattle.std.specs.Borrow.{Bor}
use Rattle.envimg_core.specs.Environment.{Pair}

-- a variable whose name and value are lent
abbrev pub lent_pair : Bor (List ℕ) × Bor (List ℕ) → Pair
lent_pair lent = (lent.0.now, lent.1.now)

-- a text that is lent
abbrev pub lent_line : Bor (List ℕ) → List ℕ
lent_line lent = lent.now
