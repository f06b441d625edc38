-- A line is a joined variable with a newline after it.
use Rattle.std.proofs.Common.{◌≡◌, List, [], ◌∷◌, ◌++◌, map, refl, ap}
use Rattle.std.specs.List.{flat_map}
use Rattle.envimg_core.specs.Environment.{Pair}
use Rattle.fw_engines.specs.Shown.{line_of}

pub lines_joined : (ps : List Pair) → flat_map (λ x. x ++ 10 ∷ []) (map (λ p. p.0 ++ 61 ∷ p.1) ps) ≡ flat_map line_of ps
lines_joined [] = refl
lines_joined (p ∷ ps) = ap (λ xs. line_of p ++ xs) (lines_joined ps)
