-- What a check prints of an environment and of scripts in files (docs/check.md, "Which scripts").
use Rattle.std.specs.Prelude.{◌≡◌, ◌⊎◌, ℕ, ◌==◌, Bool, false, List, [], ◌∷◌, length, map, Option, Some, None}
use Rattle.envimg_core.specs.Environment.{Environment}
use Rattle.finding_kinds.specs.Choices.{Choice}
use Rattle.fw_engines.specs.Streams.{Writers}
use Rattle.fw_engines.specs.declared.tool_end.ToolEnd.{ToolEnd}
use Rattle.fw_check.specs.Called.{Given}
use Rattle.fw_check.specs.Checking.{AreAsked, AreVisited, LacksMemory, PrintsReport, Reports, first_report, follow_texts, known_after, with_whole}
use Rattle.fw_check.specs.EntryPlaces.{EnvironmentText}
use Rattle.fw_check.specs.ReportLines.{Report, no_lines}
use Rattle.fw_check.specs.Following.{Followed, begin_with, is_among}
use Rattle.fw_check.specs.Knowing.{Known}
use Rattle.fw_check.specs.Lines.{File}
use Rattle.fw_check.specs.Origins.{Own}
use Rattle.fw_check.specs.Reports.{GoesOn}
use Rattle.fw_check.specs.declared.file_checks.FileScript as files

-- the path of a file, and the text in it
pub record FileScript : Type 0 where
  pub path : List ℕ
  pub text : List ℕ

abbrev pub paths_of : List FileScript → List (List ℕ)
paths_of scripts = map (λ s. s.path) scripts

abbrev pub script_texts : List FileScript → List (List ℕ)
script_texts scripts = map (λ s. s.text) scripts

-- whether the environment is checked alone
abbrev pub is_alone : List FileScript → Bool
is_alone scripts = length scripts == 0

-- with what is found in these, one after the other, `report` becomes `final`
abbrev pub ReportsFiles : Option Known → Given → List FileScript → Report → Report → Type 0
ReportsFiles known given [] report final = final ≡ report
ReportsFiles known given (s ∷ ss) report final =
    (after : Report) × GoesOn known given (Own (File s.path)) false s.text report after × ReportsFiles known given ss after final

-- a check of them, without an environment; or memory ran out before anything was written
abbrev pub ChecksFiles : Given → Choice → List FileScript → Writers → Writers → ToolEnd → Type 0
ChecksFiles given choice scripts old new end =
    ((report : Report) × ReportsFiles None given scripts (no_lines choice) report × PrintsReport old new report end)
    ⊎ LacksMemory old new end

-- a check that begins with what is followed so far and this report ends with `final`: the scripts of files are checked, and then those that
-- are followed
abbrev pub ComesTo : Given → Followed → Option EnvironmentText → List FileScript → Report → Report → Type 0
ComesTo given f file scripts report final =
    (visited asked : List (List ℕ)) × (after : Report) × AreVisited given f 0 visited
    × AreAsked given f.env (script_texts scripts) visited asked
    × ReportsFiles (Some (known_after given f.env (script_texts scripts) visited)) given scripts report after
    × Reports f.env file (Some (known_after given f.env (script_texts scripts) visited)) given (is_among asked) visited after final

-- what is followed before any script is read
abbrev pub follow_first : Given → Environment → (all : Bool) → List (List ℕ) → List FileScript → Followed
follow_first given env all names scripts =
    follow_texts given (script_texts scripts) (begin_with given.hardware env all (is_alone scripts) names)

-- a check of an environment, which may have been read from a text, from these names on, and of scripts in files over it
abbrev pub Checks : Given → Environment → Option EnvironmentText → Choice → List (List ℕ) → List FileScript → Writers → Writers → ToolEnd → Type 0
Checks given env file choice names scripts old new end =
    ((report : Report) × ComesTo given (follow_first given env choice.all names scripts) file scripts (first_report choice env names) report
    × PrintsReport old new (with_whole (is_alone scripts) env file report) end)
    ⊎ LacksMemory old new end

-- the code's scripts, in this form
abbrev pub script_view : files.FileScript → FileScript
script_view s = record { path = s.path.now; text = s.text.items }

abbrev pub scripts_view : List files.FileScript → List FileScript
scripts_view ss = map script_view ss
