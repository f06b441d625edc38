use Rattle.std.proofs.Common.{◌≡◌, ℕ, List, ◌++◌, ◌∷◌, []}
use Rattle.std.specs.List.{flat_map}
use Rattle.std.specs.Io.KnownBytes.{Appends}
use Rattle.fw_engines.specs.Shown.{listing}
use Rattle.fw_engines.proofs.variable_lines.print_all.Given as goal

abbrev pub invariant-loop-line : goal.invariant-loop-line
invariant-loop-line g l =
    (front : List ℕ) × (listing l.vars.env ≡ front ++ flat_map (λ x. x ++ 10 ∷ []) l.line-iterator) × Appends (g.W.Write.contents l.initial.output) (g.W.Write.contents l.output) front
