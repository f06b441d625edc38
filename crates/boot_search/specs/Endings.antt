-- The ways in which a power-on over one stored environment can end. `run` is what it comes to with given answers.
use Rattle.std.specs.Prelude.{◌≡◌, ◌<◌, ◌-◌, ◌⊎◌, ℕ, zero, suc, List, [], ◌∷◌, ◌++◌, map, take, slice_get, Some, All, Contains}
use Rattle.boot_search.specs.declared.board.Answer.{Answer}
use Rattle.boot_search.specs.declared.board.End.{End}
use Rattle.boot_search.specs.declared.endings.Ending.{Ending}
use Rattle.boot_search.specs.Outcomes.{Given, Outcome, asks, ended, given_of}
use Rattle.std.specs.declared.alloc.Global.{Global}
use Rattle.std.specs.Prelude.{Vec}

-- the answers of a power-on, how it ended and by what, and what is stored then
pub record Ended : Type 0 where
  pub answers : List Given
  pub end : End
  pub by : List ℕ
  pub next : List ℕ

abbrev pub ending_view : Ending → Ended
ending_view e = record { answers = map given_of e.answers.items; end = e.end; by = e.by.items; next = e.next.items }

-- it is one of the answers to the question that was asked
abbrev pub IsAnswer : Outcome → Given → Type 0
IsAnswer (asks question choices) g = (g.question ≡ question) × (g.choice < choices)
IsAnswer (ended end by next) g = ⊥

-- each of these was asked for, given those before it, and is one of the answers to that question
abbrev pub Answered : (List Given → Outcome) → List Given → Type 0
Answered run answers = (k : ℕ) (g : Given) → slice_get answers k ≡ Some g → IsAnswer (run (take k answers)) g

-- a power-on asked for just these answers, and ended so
abbrev pub IsEnding : (List Given → Outcome) → Ended → Type 0
IsEnding run e = Answered run e.answers × (run e.answers ≡ ended e.end e.by e.next)

abbrev pub AreEndings : (List Given → Outcome) → List Ended → Type 0
AreEndings run found = All (IsEnding run) found

abbrev pub AreAllEndings : (List Given → Outcome) → List Ended → Type 0
AreAllEndings run found = (e : Ended) → IsEnding run e → Contains found e

abbrev pub answer_to : List ℕ → ℕ → Given
answer_to question choice = record { question = question; choice = choice }

-- the answers with one more of the question's behind them: its last `count` ones, the last one first
abbrev pub with_answers : List Given → (question : List ℕ) → (choices count : ℕ) → List (List Given)
with_answers answers question choices zero = []
with_answers answers question choices (suc count) =
    with_answers answers question choices count ++ (answers ++ answer_to question (choices - 1 - count) ∷ []) ∷ []

abbrev pub answers_of : Vec Answer Global → List Given
answers_of v = map given_of v.items

-- one of the pending lists is how these answers begin
abbrev pub Begins : List (List Given) → List Given → Type 0
Begins pending answers = (front : List Given) × (rest : List Given) × Contains pending front × (answers ≡ front ++ rest)

-- what was found are endings, and each other ending begins with pending answers
pub record Searching (run : List Given → Outcome) (pending : List (List Given)) (found : List Ended) : Type 0 where
  pub begun : All (Answered run) pending
  pub sound : AreEndings run found
  pub rest : (e : Ended) → IsEnding run e → Contains found e ⊎ Begins pending e.answers
