-- Power cuts: what one may leave stored, and the questions that find it (docs/boot.md).
use Rattle.std.specs.Prelude.{◌≡◌, ◌≤◌, ◌+◌, ◌⊎◌, ◌↔◌, Contains, slice_index_or, slice_get, Some, ℕ, zero, suc, List, [], ◌∷◌, length, take}
use Rattle.boot_search.specs.declared.board.End.{End}
use Rattle.boot_search.specs.declared.board.End.TheVariants.{Resets}
use Rattle.boot_search.specs.Outcomes.{Given, Outcome, asks, ended}
use Rattle.boot_search.specs.Endings.{Ended, IsAnswer, IsEnding}
use Rattle.boot_search.specs.Reports.{Reaches}

-- what a power-on does, one thing after another
pub data Play : Type 0 where
  stops : End → (by : List ℕ) → Play
  -- a question with two answers
  asks_for : (question : List ℕ) → Play → Play → Play
  -- this is stored, and it goes on; what is stored if that is cut half way, beside what was there and this
  saves : (question text : List ℕ) → (torn : List (List ℕ)) → Play → Play

-- what may be stored when the power goes at any moment, in the middle of a save too
abbrev pub MayLeave : Play → List ℕ → List ℕ → Type 0
MayLeave (stops end by) stored left = left ≡ stored
MayLeave (asks_for question first second) stored left = (left ≡ stored) ⊎ (MayLeave first stored left ⊎ MayLeave second stored left)
MayLeave (saves question text torn rest) stored left = (left ≡ stored) ⊎ ((left ≡ text) ⊎ (Contains torn left ⊎ MayLeave rest text left))

abbrev pub by_choice : ℕ → Outcome → Outcome → Outcome
by_choice zero first second = first
by_choice (suc n) first second = second

-- what a save comes to by its answer: 0, it is done; 1, the power goes before it; 2 and on, half way
abbrev pub by_save : ℕ → (done : Outcome) → (question stored : List ℕ) → (torn : List (List ℕ)) → Outcome
by_save zero done question stored torn = done
by_save (suc zero) done question stored torn = ended Resets question stored
by_save (suc (suc k)) done question stored torn = ended Resets question (slice_index_or torn k stored)

-- its meaning with one question more at each save
abbrev pub play : Play → List ℕ → List Given → Outcome
play (stops end by) stored answers = ended end by stored
play (asks_for question first second) stored [] = asks question 2
play (asks_for question first second) stored (g ∷ answers) = by_choice g.choice (play first stored answers) (play second stored answers)
play (saves question text torn rest) stored [] = asks question (2 + length torn)
play (saves question text torn rest) stored (g ∷ answers) = by_save g.choice (play rest text answers) question stored torn

-- what a cut at any moment may leave, or an end, is what some answers leave
abbrev pub CutsAreAsked : Type 0
CutsAreAsked = (p : Play) (stored left : List ℕ) → MayLeave p stored left ↔ ((e : Ended) × IsEnding (play p stored) e × (e.next ≡ left))

-- what may be stored after so many power-ons, each of which may be cut at any moment
abbrev pub LeftAfter : (List ℕ → Play) → List ℕ → ℕ → List ℕ → Type 0
LeftAfter plays start zero to = to ≡ start
LeftAfter plays start (suc n) to = (before : List ℕ) × LeftAfter plays start n before × MayLeave (plays before) before to

-- what any power-ons and cuts may leave, and nothing else, is reached
abbrev pub CutsReach : Type 0
CutsReach =
    (plays : List ℕ → Play) (start : List ℕ) (n : ℕ) (to : List ℕ) → LeftAfter plays start n to ↔ Reaches (λ stored answers. play (plays stored) stored answers) start n to

-- where these answers came to an end, a front of them is an ending, if each was one of its question's
abbrev pub EndsAtOnce : Type 0
EndsAtOnce =
    (run : List Given → Outcome) (answers : List Given) (end : End) (by next : List ℕ) → run answers ≡ ended end by next
    → ((k n : ℕ) (g : Given) (question : List ℕ) → slice_get answers k ≡ Some g → run (take k answers) ≡ asks question n → IsAnswer (asks question n) g)
    → (k : ℕ) × (k ≤ length answers) × (e : Ended) × IsEnding run e × (e.answers ≡ take k answers)
