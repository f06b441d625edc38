use Rattle.std.proofs.Common.{◌≡◌, ◌++◌, ◌∷◌, [], ℕ, List, true}
use Rattle.std.specs.List.{flat_map}
use Rattle.fw_session.specs.Streams.{Writes}
use Rattle.env_requests.specs.Requests.{listing}
use Rattle.fw_session.proofs.answers.write_lines.Given as goal

abbrev pub invariant-loop-line : goal.invariant-loop-line
invariant-loop-line g l =
    (front : List ℕ) × (listing l.session.now.env ≡ front ++ flat_map (λ x. x ++ 10 ∷ []) l.line-iterator) × Writes (g.W.Write.contents l.initial.output) (g.W.Write.contents l.output) l.initial.written l.written front true
