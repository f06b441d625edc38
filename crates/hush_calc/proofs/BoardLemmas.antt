-- A word of a board's test that a comparison begins with.
use Rattle.std.proofs.Common.{◌≡◌, ℕ, List, ◌∷◌, Some, refl}
use Rattle.hush_calc.specs.declared.comparison.Comparison.{Comparison}
use Rattle.hush_calc.specs.declared.board.Reading.{Reading}
use Rattle.hush_calc.specs.Board.{Files, board_from, board_compared, comparison_in}

pub compared : (there : Files) (r : Reading) (w : List ℕ) (ws : List (List ℕ)) (comparison : Comparison) → comparison_in ws ≡ Some comparison → board_from there r (w ∷ ws) ≡ board_compared there r w comparison ws
compared there r w ws comparison e = rw (e, board_from) refl
