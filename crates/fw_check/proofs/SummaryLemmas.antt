-- A text in three parts.
use Rattle.std.proofs.Common.{◌≡◌, ℕ, List, [], ◌++◌, ap, ◌∙◌}

pub three_parts : (a b c none first second third : List ℕ) → none ≡ [] → first ≡ none ++ a → second ≡ first ++ b → third ≡ second ++ c → third ≡ a ++ b ++ c
three_parts a b c none first second third empty one two three =
    three ∙ ap (λ (t : List ℕ). t ++ c) (two ∙ ap (λ (t : List ℕ). t ++ b) (one ∙ ap (λ (t : List ℕ). t ++ a) empty))
