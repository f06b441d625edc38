-- Power cuts: at which saves of a power-on the power fails, and what is stored then (docs/boot.md, "A power cut").
use Rattle.std.specs.Prelude.{ℕ, ◌+◌, ◌-◌, ◌*◌, ◌==◌, min, max, Bool, true, false, if◌then◌else◌, List, [], ◌∷◌, ◌++◌, Option, Some, None, codes}
use Rattle.std.specs.Int.{is_in_range}
use Rattle.std.specs.Fmt.{decimal}
use Rattle.std.specs.List.{fold}
use Rattle.std.specs.Str.{bytes_eq}
use Rattle.text_parts.specs.Words.{spaced}
use Rattle.run_limits.specs.Limits.{Bounds, asking_saves, most_steps}
use Rattle.boot_search.specs.Outcomes.{Given, Outcome, asks, ended}
use Rattle.boot_search.specs.declared.board.End.TheVariants.{Resets}
use Rattle.fw_boots.specs.declared.cuts.Cuts.{Cuts}
use Rattle.fw_boots.specs.declared.cuts.Cuts.TheVariants as cuts

-- where the power may fail: nowhere; at each save of one copy, which holds this if it was cut in the middle; or at each of two,
-- of which the other one stays
pub data Cutting : Type 0 where
  Never : Cutting
  OfOne : (bad : List ℕ) → Cutting
  OfTwo : Cutting

abbrev pub cutting_of : Cuts → Cutting
cutting_of cuts.Never = Never
cutting_of (cuts.OfOne bad) = OfOne bad.now
cutting_of cuts.OfTwo = OfTwo

-- ---- the question of a save

-- the words of its call, and the step that it is: no call's, since no 0 byte ends it
abbrev pub save_question : (words : List (List ℕ)) → (step : ℕ) → List ℕ
save_question words step = spaced words ++ (codes " at step " ++ decimal step)

-- the number at the end of a question: 0 if that isn't one of a save
abbrev pub step_after : (step : ℕ) → (byte : ℕ) → ℕ
step_after step byte = if is_in_range 48 57 byte then min (step * 10 + (byte - 48)) most_steps else 0

unfoldable pub step_in : (question : List ℕ) → ℕ
step_in question = fold step_after 0 question

-- ---- the answers

-- each save is done up to the last one that was answered by 0
abbrev pub done_to : (step : ℕ) → Given → ℕ
done_to step g = if g.choice == 0 then max step (step_in g.question) else step

unfoldable pub saves_done : List Given → ℕ
saves_done answers = fold done_to 0 answers

abbrev pub limits_with : Cutting → List Given → Bounds → Bounds
limits_with Never answers limits = limits
limits_with (OfOne bad) answers limits = asking_saves limits (saves_done answers)
limits_with OfTwo answers limits = asking_saves limits (saves_done answers)

-- the answer to a question, if it was given
abbrev pub choice_in : List Given → (question : List ℕ) → Option ℕ
choice_in [] question = None
choice_in (g ∷ answers) question = if bytes_eq question g.question then Some g.choice else choice_in answers question

-- ---- what becomes of a save that is asked for

-- 0, it is done; 1, the power fails before anything is written; 2, in the middle of the only copy
abbrev pub choices_of : Cutting → ℕ
choices_of Never = 1
choices_of (OfOne bad) = 3
choices_of OfTwo = 2

-- what is stored then, where this was
abbrev pub stored_after : Cutting → (choice : ℕ) → (stored : List ℕ) → List ℕ
stored_after Never choice stored = stored
stored_after (OfOne bad) choice stored = if choice == 2 then bad else stored
stored_after OfTwo choice stored = stored

abbrev pub cut_by : Cutting → Option ℕ → (question stored : List ℕ) → Outcome
cut_by cuts None question stored = asks question (choices_of cuts)
cut_by cuts (Some choice) question stored = ended Resets (codes "power cut" ++ 0 ∷ []) (stored_after cuts choice stored)

abbrev pub save_outcome : Cutting → List Given → (question stored : List ℕ) → Outcome
save_outcome cuts answers question stored = cut_by cuts (choice_in answers question) question stored
