-- What a power-on comes to (docs/boot.md).
use Rattle.std.specs.Prelude.{ℕ, List}
use Rattle.boot_search.specs.declared.board.Answer.{Answer}
use Rattle.boot_search.specs.declared.board.End.{End}
use Rattle.boot_search.specs.declared.board.Turn.{Turn}
use Rattle.boot_search.specs.declared.board.Turn.TheVariants.{Asks, Ends}

-- an answer: the question that it is given to, and which of that question's answers it is
pub record Given : Type 0 where
  pub question : List ℕ
  pub choice : ℕ

abbrev pub given_of : Answer → Given
given_of a = record { question = a.question.items; choice = a.choice }

-- It asks a question that has so many answers, or it has ended so, by this, with this stored.
pub data Outcome : Type 0 where
  asks : (question : List ℕ) → (choices : ℕ) → Outcome
  ended : End → (by : List ℕ) → (next : List ℕ) → Outcome

abbrev pub outcome_of : Turn → Outcome
outcome_of (Asks question choices) = asks question.items choices
outcome_of (Ends end by next) = ended end by.items next.items
