-- What the helpers read that go through the words of a board's test: steps of the code, and no part of what the crate promises.
use Rattle.std.specs.Prelude.{◌≡◌, ℕ, Bool, true, List, Option, Some, None}
use Rattle.hush_calc.specs.declared.board.Reading.{Reading}
use Rattle.hush_calc.specs.Board.{Files, board_from}

-- what was wanted is what the words that are left evaluate to after this; or it is true
abbrev pub GoesOn : (wanted : Bool) (there : Files) → (rest : List (List ℕ)) → Option Reading → Type 0
GoesOn wanted there rest (Some reading) = wanted ≡ board_from there reading rest
GoesOn wanted there rest None = wanted ≡ true
