-- The text of a survey (docs/boot.md).
use Rattle.std.specs.Prelude.{◌≡◌, ◌<◌, ◌+◌, ◌==◌, if◌then◌else◌, nat_lt, ℕ, suc, List, [], ◌∷◌, ◌++◌, length, slice_get, Option, None, Some, Bool, true, false, codes}
use Rattle.std.specs.List.{concat, flat_map}
use Rattle.std.specs.Fmt.{decimal}
use Rattle.boot_search.specs.declared.board.End.{End}
use Rattle.boot_search.specs.declared.board.End.TheVariants.{Boots, Resets, GivesUp, Unknown}
use Rattle.boot_search.specs.declared.bootable.Survey.{Survey}
use Rattle.boot_search.specs.Outcomes.{Given}
use Rattle.boot_search.specs.Reports.{LeadsTo, Step, steps_of, texts_of}
use Rattle.boot_search.specs.Bootable.{unmarked}

-- a byte of words; whether it is their last one
abbrev pub byte_text : ℕ → Bool → List ℕ
byte_text byte true = if byte == 0 then [] else byte ∷ []
byte_text byte false = if byte == 0 then codes " " else byte ∷ []

abbrev pub is_empty : List ℕ → Bool
is_empty [] = true
is_empty (x ∷ xs) = false

-- words that have a 0 byte after each: a blank between two of them
abbrev pub words_text : List ℕ → List ℕ
words_text [] = []
words_text (byte ∷ more) = byte_text byte (is_empty more) ++ words_text more

-- a stored environment's name, by its place
abbrev pub stored_name : ℕ → List ℕ
stored_name place = codes "stored " ++ decimal (place + 1)

abbrev pub answer_text : Given → List ℕ
answer_text g = words_text g.question ++ codes " = " ++ decimal g.choice

abbrev pub next_answer_text : Given → List ℕ
next_answer_text g = codes ", " ++ answer_text g

abbrev pub answers_text : List Given → List ℕ
answers_text [] = []
answers_text (g ∷ others) = answer_text g ++ flat_map next_answer_text others ++ codes ": "

abbrev pub end_text : End → (by : List ℕ) → List ℕ
end_text Boots by = codes "boots: " ++ words_text by
end_text Resets by = codes "resets: " ++ words_text by
end_text GivesUp by = codes "gives up"
end_text Unknown by = codes "unknown: " ++ words_text by

abbrev pub way_text : Step → List ℕ
way_text w = answers_text w.answers ++ end_text w.end w.by ++ codes "; " ++ stored_name w.to

-- the line of a way, if it leads from this stored environment
abbrev pub way_line : ℕ → Step → List ℕ
way_line from w = if w.from == from then codes "  " ++ way_text w ++ codes "\n" else []

-- what the board tells of a stored environment, and the ways from it
abbrev pub lines_of : (tells : List ℕ → List ℕ) → List Step → ℕ → List ℕ → List ℕ
lines_of tells ways place state = stored_name place ++ codes "\n" ++ tells state ++ flat_map (way_line place) ways

-- the same of each from this place on
abbrev pub stored_lines : (tells : List ℕ → List ℕ) → List Step → ℕ → List (List ℕ) → List ℕ
stored_lines tells ways place [] = []
stored_lines tells ways place (state ∷ others) = lines_of tells ways place state ++ stored_lines tells ways (place + 1) others

abbrev pub is_end : End → End → Bool
is_end Boots Boots = true
is_end Resets Resets = true
is_end GivesUp GivesUp = true
is_end Unknown Unknown = true
is_end _ _ = false

-- how many ways end so
abbrev pub ways_that : End → List Step → ℕ
ways_that end [] = 0
ways_that end (w ∷ ways) = if is_end end w.end then suc (ways_that end ways) else ways_that end ways

-- so many, and what they are
abbrev pub several : ℕ → (one more : List ℕ) → List ℕ
several n one more = decimal n ++ (if n == 1 then one else more)

abbrev pub ends_text : List Step → List ℕ
ends_text ways =
    concat
    (decimal (ways_that Boots ways) ∷ codes " boot, " ∷ decimal (ways_that Resets ways) ∷ codes " reset, " ∷ decimal (ways_that GivesUp ways) ∷ codes " give up, " ∷ decimal (ways_that Unknown ways) ∷ codes " unknown\n" ∷ [])

abbrev pub summary_line : ℕ → List Step → List ℕ
summary_line stored ways =
    several stored (codes " stored environment, ") (codes " stored environments, ") ++ several (length ways) (codes " way: ") (codes " ways: ") ++ ends_text ways

-- what a survey says, as lists
pub record Told : Type 0 where
  pub stored : List (List ℕ)
  pub ways : List Step
  pub complete : Bool
  pub boots : List Bool
  pub may_boot : List Bool

abbrev pub told_of : Survey → Told
told_of s = record {
  stored = texts_of s.report.stored.items;
  ways = steps_of s.report.ways.items;
  complete = s.report.complete;
  boots = s.boots.items;
  may_boot = s.may_boot.items;
}

-- the place of the first mark that isn't set
abbrev pub first_unmarked : List Bool → ℕ
first_unmarked [] = 0
first_unmarked (true ∷ marks) = suc (first_unmarked marks)
first_unmarked (false ∷ marks) = 0

-- these ways, by their places, lead from the first stored environment to the first one that is lost, if one is
abbrev pub IsLostPath : Told → List ℕ → Type 0
IsLostPath t path = first_unmarked t.may_boot < length t.may_boot → LeadsTo t.ways 0 path (first_unmarked t.may_boot)

-- the line of a way of that path
abbrev pub path_line : Option Step → List ℕ
path_line None = []
path_line (Some w) = codes "  " ++ stored_name w.from ++ codes ": " ++ way_text w ++ codes "\n"

abbrev pub path_lines : List Step → List ℕ → List ℕ
path_lines ways path = flat_map (λ k. path_line (slice_get ways k)) path

abbrev pub limit_line : List ℕ
limit_line = codes "a limit was met: there are more ways than these\n"

abbrev pub lost_line : ℕ → List ℕ
lost_line n =
    several n (codes " stored environment never boots again, after:\n") (codes " stored environments never boot again, the first of them after:\n")

abbrev pub doubt_line : ℕ → List ℕ
doubt_line n =
    several n (codes " stored environment boots only if a limit of the run isn't met\n") (codes " stored environments boot only if a limit of the run isn't met\n")

-- what is to be said of the marks. (Where none is lost, each environment that has no mark in `boots` has one in `may_boot`.)
abbrev pub verdict : Told → List ℕ → List ℕ
verdict t path =
    if t.complete then (if nat_lt 0 (unmarked t.may_boot) then lost_line (unmarked t.may_boot) ++ path_lines t.ways path
    else if nat_lt 0 (unmarked t.boots) then doubt_line (unmarked t.boots) else []) else limit_line

abbrev pub survey_text : (tells : List ℕ → List ℕ) → Told → List ℕ → List ℕ
survey_text tells t path = stored_lines tells t.ways 0 t.stored ++ summary_line (length t.stored) t.ways ++ verdict t path

-- the text of a survey, by some path to what is lost
abbrev pub IsSurveyText : (tells : List ℕ → List ℕ) → Told → List ℕ → Type 0
IsSurveyText tells t text = (path : List ℕ) × IsLostPath t path × (text ≡ survey_text tells t path)

-- 0 if there are no other ways, and from each stored environment some power-ons boot
abbrev pub survey_status : Told → ℕ
survey_status t = if t.complete then (if nat_lt 0 (unmarked t.boots) then 1 else 0) else 1
