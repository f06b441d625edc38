-- The stored environments from which a board can boot, after any number of power-ons.
use Rattle.std.specs.Prelude.{slice_get, Some, IsTrue, ◌≡◌, ◌<◌, ◌⊎◌, ℕ, zero, suc, List, [], ◌∷◌, length, slice_index_or, slice_set, All, Contains, Bool, true, false, MatchBool}
use Rattle.boot_search.specs.declared.board.End.{End}
use Rattle.boot_search.specs.declared.board.End.TheVariants.{Boots, Unknown}
use Rattle.boot_search.specs.declared.bootable.Survey.{Survey}
use Rattle.boot_search.specs.Endings.{Ended, IsEnding}
use Rattle.boot_search.specs.Reports.{AreReachedBy, Meaning, Step, steps_of, texts_of}

-- the ends that are looked for: boots, and perhaps those that can't be told
abbrev pub is_wanted : Bool → End → Bool
is_wanted unknown Boots = true
is_wanted unknown Unknown = unknown
is_wanted unknown _ = false

-- so many power-ons from this stored environment on, and one more that ends so
abbrev pub BootsAfter : Bool → Meaning → ℕ → List ℕ → Type 0
BootsAfter unknown runs zero state = (e : Ended) × IsEnding (runs state) e × (is_wanted unknown e.end ≡ true)
BootsAfter unknown runs (suc n) state = (e : Ended) × IsEnding (runs state) e × BootsAfter unknown runs n e.next

-- the same by listed ways
abbrev pub BootsBy : Bool → List Step → ℕ → ℕ → Type 0
BootsBy unknown ways zero place = (w : Step) × Contains ways w × (w.from ≡ place) × (is_wanted unknown w.end ≡ true)
BootsBy unknown ways (suc n) place = (w : Step) × Contains ways w × (w.from ≡ place) × BootsBy unknown ways n w.to

-- A mark for each stored environment, whether some power-ons from there end as wanted. Where the search was not complete, only a
-- mark that is set says something.
pub record AreMarks (unknown : Bool) (runs : Meaning) (complete : Bool) (stored : List (List ℕ)) (marks : List Bool) : Type 0 where
  pub some : (i : ℕ) (state : List ℕ) → slice_get stored i ≡ Some state → slice_index_or marks i false ≡ true → (n : ℕ) × BootsAfter unknown runs n state
  pub none : IsTrue complete → (i : ℕ) (state : List ℕ) → slice_get stored i ≡ Some state → slice_index_or marks i false ≡ false
      → (n : ℕ) → BootsAfter unknown runs n state → ⊥

-- the marks of a survey: of those that can boot, and with `unknown` of those that may
abbrev pub marks_of : Bool → Survey → List Bool
marks_of true s = s.may_boot.items
marks_of false s = s.boots.items

abbrev pub IsMarkedBy : Bool → Meaning → Survey → Type 0
IsMarkedBy unknown runs s = AreMarks unknown runs s.report.complete (texts_of s.report.stored.items) (marks_of unknown s)

abbrev pub IsWithin : ℕ → Step → Type 0
IsWithin count w = (w.from < count) × (w.to < count)

-- what a survey says is of its stored environments: the places of its ways, what is reached, and the marks
pub record IsSurvey (s : Survey) : Type 0 where
  pub within : All (IsWithin (length s.report.stored.items)) (steps_of s.report.ways.items)
  pub reached : AreReachedBy s.report.stored.items s.report.ways.items
  pub boots : length s.boots.items ≡ length s.report.stored.items
  pub may_boot : length s.may_boot.items ≡ length s.report.stored.items

-- the way ends as wanted or leads to a marked stored environment
abbrev pub Leads : Bool → List Bool → Step → Type 0
Leads unknown marks w = (is_wanted unknown w.end ≡ true) ⊎ (slice_index_or marks w.to false ≡ true)

-- each that is marked can boot by listed ways
abbrev pub AreBootable : Bool → List Step → List Bool → Type 0
AreBootable unknown ways marks = (place : ℕ) → slice_index_or marks place false ≡ true → (n : ℕ) × BootsBy unknown ways n place

abbrev pub IsClosed : Bool → List Bool → Step → Type 0
IsClosed unknown marks w = Leads unknown marks w → slice_index_or marks w.from false ≡ true

-- what the way leads from is marked if the way leads on, and changed says whether it was not
abbrev pub IsMarked : Bool → Step → List Bool → Bool → List Bool → Type 0
IsMarked unknown w old changed new =
    MatchBool changed
    (Leads unknown old w × (slice_index_or old w.from false ≡ false) × (new ≡ slice_set old w.from true))
    ((new ≡ old) × IsClosed unknown old w)

abbrev pub unmarked : List Bool → ℕ
unmarked [] = 0
unmarked (true ∷ marks) = unmarked marks
unmarked (false ∷ marks) = suc (unmarked marks)
