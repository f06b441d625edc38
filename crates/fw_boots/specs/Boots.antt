-- What all power-ons of a board can lead to, as it is printed (docs/boot.md).
use Rattle.std.specs.Prelude.{◌≡◌, ◌≤◌, ℕ, length, List, [], ◌++◌, map, codes, Bool, true, false, is_some, if◌then◌else◌, Option, Some, None}
use Rattle.std.specs.List.{flat_map}
use Rattle.std.specs.Str.{bytes_eq}
use Rattle.std.specs.FinMap as vars
use Rattle.envimg_core.specs.Environment.{Environment, Pair}
use Rattle.envimg_core.specs.Geometry.{Shape}
use Rattle.envvars_core.specs.Variables.{Contents}
use Rattle.env_session.specs.Session.{Held, opened}
use Rattle.env_requests.specs.Views.{rules_of}
use Rattle.hush_syntax.specs.Grammar.{Chains}
use Rattle.hush_syntax.specs.Scripts.{tree_of}
use Rattle.hush_run.specs.Meaning.{Rules}
use Rattle.boot_search.specs.Outcomes.{Given, Outcome}
use Rattle.boot_search.specs.Reports.{IsReport}
use Rattle.boot_search.specs.Bootable.{IsMarkedBy}
use Rattle.boot_search.specs.SurveyText.{IsSurveyText, survey_status, told_of}
use Rattle.boot_search.specs.DotText.{dot_of}
use Rattle.boot_search.specs.declared.bootable.Survey.{Survey}
use Rattle.boot_search.specs.declared.survey_lines.BootText.{BootText}
use Rattle.fw_boots.specs.declared.boot_board.Boot.{Boot}
use Rattle.fw_boots.specs.Cuts.{Cutting, cutting_of}
use Rattle.fw_boots.specs.PowerOns.{before_boot, power_on, with_after, with_answers}

-- the session over a stored environment
abbrev pub session_of : Shape → (defaults : Contents) → (stored : List ℕ) → Held
session_of shape defaults stored = opened shape stored None defaults

-- its variables
abbrev pub stored_env : Shape → (defaults : Contents) → (stored : List ℕ) → Environment
stored_env shape defaults stored = (session_of shape defaults stored).now.env

-- ---- what a stored environment has otherwise than the first

abbrev pub is_value : List ℕ → Option (List ℕ) → Bool
is_value value None = false
is_value value (Some other) = bytes_eq value other

-- a variable that the first hasn't, or has with another value
abbrev pub changed_line : (first : Environment) → Pair → List ℕ
changed_line first (name, value) =
    if is_value value (vars.get first name) then [] else codes "  " ++ (name ++ (codes "=" ++ (value ++ codes "\n")))

-- one that the first has and this hasn't
abbrev pub gone_line : (now : Environment) → (name : List ℕ) → List ℕ
gone_line now name = if is_some (vars.get now name) then [] else codes "  " ++ (name ++ codes " (gone)\n")

abbrev pub gone_lines : (now : Environment) → List Pair → List ℕ
gone_lines now pairs = flat_map (λ p. gone_line now p.0) pairs

abbrev pub change_lines : (first now : Environment) → List ℕ
change_lines first now = flat_map (changed_line first) (vars.entries now) ++ gone_lines now (vars.entries first)

-- ---- the board

-- a board that is powered on: what a run follows, where its power may fail, whether it counts, the tree that it runs, those that
-- its system may run once it has booted, the shape of the one copy that it stores, the defaults, and the copy that is stored
-- before the first power-on
pub record Power : Type 0 where
  pub rules : Rules
  pub cuts : Cutting
  pub counts : Bool
  pub tree : Option Chains
  pub after : List (Option Chains)
  pub shape : Shape
  pub defaults : Contents
  pub first : List ℕ

abbrev pub power_of : Boot → Power
power_of b = record {
  rules = rules_of b.rules;
  cuts = cutting_of b.cuts;
  counts = b.counts;
  tree = tree_of b.script.now;
  after = map tree_of b.after.now;
  shape = b.geometry;
  defaults = b.defaults.now;
  first = b.first.now;
}

-- what is stored, as a session begins with it, and the trees of its scripts
abbrev pub over_of : Boot → (stored : List ℕ) → Held
over_of b stored = session_of b.geometry b.defaults.now stored

abbrev pub trees_of : Boot → List (Option Chains)
trees_of b = map tree_of b.after.now

-- what a power-on over a session comes to
abbrev pub outcome_over : Power → Held → List Given → Outcome
outcome_over p held answers =
    let rules = with_answers answers p.rules in
    with_after p.cuts rules (session_of p.shape p.defaults) p.after answers
    (power_on p.cuts (before_boot answers) p.counts rules p.tree held)

-- the same over a stored environment
abbrev pub runs_of : Power → (stored : List ℕ) → List Given → Outcome
runs_of p stored = outcome_over p (session_of p.shape p.defaults stored)

-- what is told of a stored environment, beside these first variables
abbrev pub tells_from : (first : Environment) → Power → (stored : List ℕ) → List ℕ
tells_from first p stored = change_lines first (stored_env p.shape p.defaults stored)

-- beside the board's own first
abbrev pub tells_of : Power → (stored : List ℕ) → List ℕ
tells_of p = tells_from (stored_env p.shape p.defaults p.first) p

-- a survey lists what power-ons lead to, beginning with the first copy, and no more ways than the most
abbrev pub IsSurveyOf : Power → (most : ℕ) → Survey → Type 0
IsSurveyOf p most survey =
    IsReport (runs_of p) p.first survey.report × IsMarkedBy false (runs_of p) survey × IsMarkedBy true (runs_of p) survey
    × (length survey.report.ways.items ≤ most)

-- what is printed of it is its text, or its graph
abbrev pub IsTextOf : (is_graph : Bool) → Power → Survey → List ℕ → Type 0
IsTextOf true p survey text = text ≡ dot_of (tells_of p) (told_of survey)
IsTextOf false p survey text = IsSurveyText (tells_of p) (told_of survey) text

abbrev pub BootsAs : (is_graph : Bool) → Power → (most : ℕ) → BootText → Type 0
BootsAs is_graph p most told =
    (survey : Survey) × IsSurveyOf p most survey × IsTextOf is_graph p survey told.text.items × (told.status ≡ survey_status (told_of survey))
