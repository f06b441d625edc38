-- Terms under their negations.
use Rattle.std.proofs.Common.{◌≡◌, ℕ, Bool, not, List, ◌∷◌, Option, Some, None, option_map, ap, sym, ◌∙◌}
use Rattle.hush_calc.specs.declared.comparison.Opening.{Opening}
use Rattle.hush_calc.specs.declared.comparison.Opening.TheVariants.{Not, Filled, Empty, Word}
use Rattle.hush_calc.specs.Test.{opening_of, signed, is_empty, from_term, from_operand, from_comparison}
use Rattle.hush_calc.specs.TestSteps.{Reads}

-- what is after a term's first word, by what that word is
abbrev behind_opening : (Bool → Bool) → Bool → List ℕ → List (List ℕ) → Opening → Option Bool
behind_opening f odd w ws Not = from_term f (not odd) ws
behind_opening f odd w ws Filled = from_operand (λ s. f (signed odd (not (is_empty s)))) ws
behind_opening f odd w ws Empty = from_operand (λ s. f (signed odd (is_empty s))) ws
behind_opening f odd w ws Word = from_comparison (λ b. f (signed odd b)) w ws

pub term-cons : (f : Bool → Bool) (odd : Bool) (words : List (List ℕ)) (w : List ℕ) (ws : List (List ℕ)) (o : Opening) →
    words ≡ w ∷ ws → o ≡ opening_of w → from_term f odd words ≡ behind_opening f odd w ws o
term-cons f odd words w ws o e is = ap (from_term f odd) e ∙ sym (ap (λ x. behind_opening f odd w ws x) is)

-- a primary that was read gives the term
pub reads-signed : (odd : Bool) (from of_primary : (Bool → Bool) → Option Bool) (rest : List (List ℕ)) (r value : Option Bool) →
    Reads of_primary rest r → ((f : Bool → Bool) → from f ≡ of_primary (λ b. f (signed odd b))) → value ≡ option_map (signed odd) r → Reads from rest value
reads-signed odd from of_primary rest (Some v) value reads same is =
    rw is (λ f. same f ∙ reads (λ b. f (signed odd b)))
reads-signed odd from of_primary rest None value reads same is =
    rw is (λ f. same f ∙ reads (λ b. f (signed odd b)))
