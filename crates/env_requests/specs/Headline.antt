-- The headline: the replies to a list of requests to a session, and what an undo brings back.
use Rattle.std.specs.Prelude.{◌≡◌, ℕ, if◌then◌else◌, List, [], ◌∷◌, map, Some, Ok}
use Rattle.env_session.specs.Session.{State, Held, state_at}
use Rattle.env_session.specs.Laws.{IsSameState}
use Rattle.hush_run.specs.Meaning.{Rules}
use Rattle.env_requests.specs.Requests.{Request, Note, Reply, Undone, Answer, answer_to, MayBe}
use Rattle.env_requests.specs.Marks.{undoes_to, makes_mark}

-- the answers to requests one after the other, each to the session that the one before it left
unfoldable pub replies : Rules → Held → List Request → List Note → List Answer
replies rules h [] notes = []
replies rules h (request ∷ requests) [] = []
replies rules h (request ∷ requests) (note ∷ notes) =
    answer_to rules h request note ∷ replies rules (answer_to rules h request note).left requests notes

-- one note for each request, each of them possible
unfoldable pub AllMayBe : Rules → Held → List Request → List Note → Type 0
AllMayBe rules h [] [] = Unit {0}
AllMayBe rules h [] (note ∷ notes) = ⊥
AllMayBe rules h (request ∷ requests) [] = ⊥
AllMayBe rules h (request ∷ requests) (note ∷ notes) =
    MayBe rules h request note × AllMayBe rules (answer_to rules h request note).left requests notes

-- the session after the last of them
abbrev pub left_by : Held → List Answer → Held
left_by h [] = h
left_by h (answer ∷ answers) = left_by answer.left answers

-- what was shown when each mark was made, after one more answer
abbrev pub made_after : (ℕ → State) → Answer → ℕ → State
made_after made answer n = if makes_mark n answer.reply then answer.left.now else made n

-- wherever an undo to a mark answered Ok, all that is shown then is what was shown when that mark was made
unfoldable pub UndosReturn : (ℕ → State) → List Request → List Answer → Type 0
UndosReturn made [] answers = Unit {0}
UndosReturn made (request ∷ requests) [] = Unit {0}
UndosReturn made (request ∷ requests) (answer ∷ answers) =
    ((n : ℕ) → undoes_to request ≡ Some n → answer.reply ≡ Undone (Ok tt) → IsSameState (made n) answer.left.now)
    × UndosReturn (made_after made answer) requests answers

-- for some notes, each of them possible, the replies and the session at the end are the definition's; and each undo
-- that answered Ok brought back all that was shown when its mark was made. Mark 0 is the opening, and `Undo` goes there
abbrev pub Headline : Rules → Held → List Request → List Reply → Held → Type 0
Headline rules h requests told after =
    (notes : List Note)
    × AllMayBe rules h requests notes
    × (told ≡ map (λ answer. answer.reply) (replies rules h requests notes))
    × (after ≡ left_by h (replies rules h requests notes))
    × UndosReturn (λ n. state_at h.marks n h.now) requests (replies rules h requests notes)
