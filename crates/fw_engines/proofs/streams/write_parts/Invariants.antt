use Rattle.std.proofs.Common.{◌≡◌, ℕ, List, ◌++◌, drop, map}
use Rattle.std.specs.List.{concat}
use Rattle.std.specs.Io.KnownBytes.{Appends}
use Rattle.fw_engines.proofs.streams.write_parts.Given as goal

abbrev pub invariant-loop-part : goal.invariant-loop-part
invariant-loop-part g l =
    (front : List ℕ) × (front ++ concat (map (λ p. p.now) (drop l.part-index l.parts)) ≡ concat (map (λ p. p.now) l.parts))
    × Appends (g.W.Write.contents l.initial.writer) (g.W.Write.contents l.writer) front
