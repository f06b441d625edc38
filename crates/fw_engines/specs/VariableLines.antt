-- What printenv prints (docs/tools.md, "The tools over a session").
use Rattle.std.specs.Prelude.{◌≡◌, ℕ, ◌==◌, Bool, true, false, if◌then◌else◌, List, [], ◌∷◌, ◌++◌, length, codes, Option, Some, None, is_none, MatchOption}
use Rattle.std.specs.List.{flat_map, list_any}
use Rattle.std.specs.FinMap.{get}
use Rattle.envimg_core.specs.Environment.{Environment}
use Rattle.fw_engines.specs.Messages.{not_defined}
use Rattle.fw_engines.specs.Shown.{line_of, listing}
use Rattle.fw_engines.specs.Streams.{Writers}
use Rattle.fw_engines.specs.Tool.{Texts, Writes, WritesPart}

-- the line of a variable, or of only its value
abbrev pub line_or_value : Bool → List ℕ → List ℕ → List ℕ
line_or_value true name value = value ++ 10 ∷ []
line_or_value false name value = line_of (name, value)

-- on standard output: nothing if there is no value
abbrev pub line_if_there : Bool → List ℕ → Option (List ℕ) → List ℕ
line_if_there value_only name None = []
line_if_there value_only name (Some value) = line_or_value value_only name value

-- on standard error: that there is no value
abbrev pub message_if_absent : List ℕ → Option (List ℕ) → List ℕ
message_if_absent name None = not_defined name
message_if_absent name (Some value) = []

abbrev pub line_for : Bool → Environment → List ℕ → List ℕ
line_for value_only env name = line_if_there value_only name (get env name)

abbrev pub message_for : Environment → List ℕ → List ℕ
message_for env name = message_if_absent name (get env name)

abbrev pub is_absent : Environment → List ℕ → Bool
is_absent env name = is_none (get env name)

-- the status of a tool by whether something failed
abbrev pub status_of : Bool → ℕ
status_of true = 1
status_of false = 0

-- each name in its order: its line on standard output, or a message on standard error
abbrev pub named : Bool → Environment → List (List ℕ) → Texts
named value_only env names = record {
  output = flat_map (line_for value_only env) names;
  errors = flat_map (message_for env) names;
  status = status_of (list_any (is_absent env) names);
}

-- only a message
abbrev pub complaint : List ℕ → Texts
complaint text = record { output = []; errors = text; status = 1 }

abbrev pub one_name : List ℕ
one_name = codes "## Error: -n takes exactly one name" ++ 10 ∷ []

-- without names, all variables; to print only the value takes exactly one name
abbrev pub printed : Environment → List (List ℕ) → Bool → Texts
printed env [] false = record { output = listing env; errors = []; status = 0 }
printed env (n ∷ names) false = named false env (n ∷ names)
printed env names true = if length names == 1 then named true env names else complaint one_name

-- one name was printed, and whether it has no value; or less than that
abbrev pub of_name : Bool → Environment → List ℕ → Texts
of_name value_only env name = record { output = line_for value_only env name; errors = message_for env name; status = status_of (is_absent env name) }

abbrev pub PrintsName : Writers → Writers → Bool → Environment → List ℕ → Option Bool → Type 0
PrintsName old new value_only env name absent =
    MatchOption absent (WritesPart old new (of_name value_only env name))
    (λ missing. Writes old new (of_name value_only env name) × (missing ≡ is_absent env name))
