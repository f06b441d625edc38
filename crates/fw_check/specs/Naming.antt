-- The names that statements run, give to something and foresee (docs/check.md).
use Rattle.std.specs.Prelude.{ℕ, ◌-◌, Bool, false, List, [], ◌∷◌, map, codes, length, take, Option, Some, None, option_to_list, if◌then◌else◌}
use Rattle.std.specs.List.{flat_map}
use Rattle.hush_words.specs.Words.{Atom}
use Rattle.hush_commands.specs.declared.shell.Shell.{Shell}
use Rattle.hush_run.specs.Meaning.{bodies_of}
use Rattle.fw_check.specs.Called.{Given, called_by, is_after_env}
use Rattle.fw_check.specs.Literals.{Front, front_of, is_called, is_word_of, literal_of, substituted}
use Rattle.fw_check.specs.Statements.{Statement, Calls, Assigns, Binds, statements_in}
use Rattle.fw_check.specs.declared.settings.Setting.{Setting}

abbrev pub is_run : Option (List ℕ) → Bool
is_run called = is_called (codes "run") called

abbrev pub is_test : Option (List ℕ) → Bool
is_test called = is_called (codes "test") called

abbrev pub is_exit : Option (List ℕ) → Bool
is_exit called = is_called (codes "exit") called

-- ---- the arguments of `run`, by what they begin with

abbrev pub run_by : Given → List (List Atom) → List Front
run_by given [] = []
run_by given (word ∷ words) = if is_run (called_by given word) then map front_of words else []

abbrev pub run_fronts : Given → Statement → List Front
run_fronts given (Calls s words) = run_by given words
run_fronts given (Assigns s name value) = []
run_fronts given (Binds s name words) = []

-- those in the script of a text
abbrev pub run_in : Given → List ℕ → List Front
run_in given text = flat_map (run_fronts given) (statements_in (bodies_of given.shell) false text)

-- ---- those whose statuses are asked for; a `run` asks for that of each but the last

abbrev pub asked_words : Setting → List (List Atom) → List (List Atom)
asked_words s words = if s.asked then words else take (length words - 1) words

abbrev pub asked_by : Given → Setting → List (List Atom) → List Front
asked_by given s [] = []
asked_by given s (word ∷ words) = if is_run (called_by given word) then map front_of (asked_words s words) else []

abbrev pub asked_fronts : Given → Statement → List Front
asked_fronts given (Calls s words) = asked_by given s words
asked_fronts given (Assigns s name value) = []
asked_fronts given (Binds s name words) = []

-- those in the script of a text, whose own status is asked for or isn't
abbrev pub asked_in : Given → (asked : Bool) → List ℕ → List Front
asked_in given asked text = flat_map (asked_fronts given) (statements_in (bodies_of given.shell) asked text)

-- ---- names that are given to something

-- an argument without a substitution is such a name; in a `test`, so are the names in the substitutions of
-- other arguments
abbrev pub given_or : (tests : Bool) → List Atom → Option (List ℕ) → List (List ℕ)
given_or tests word None = if tests then substituted word else []
given_or tests word (Some name) = name ∷ []

abbrev pub argument_names : (tests : Bool) → List Atom → List (List ℕ)
argument_names tests word = given_or tests word (literal_of word)

abbrev pub given_by : Given → List (List Atom) → List (List ℕ)
given_by given [] = []
given_by given (word ∷ words) = flat_map (argument_names (is_test (called_by given word))) words

abbrev pub given_names : Given → Statement → List (List ℕ)
given_names given (Calls s words) = given_by given words
given_names given (Assigns s name value) = name ∷ []
given_names given (Binds s name words) = name ∷ []

-- those that the script of a text gives
abbrev pub given_in : Given → List ℕ → List (List ℕ)
given_in given text = flat_map (given_names given) (statements_in (bodies_of given.shell) false text)

-- ---- names that are foreseen: a command sets their variables, tests them, or asks for them

-- the names of `setexpr`, by how much memory an address reads
abbrev pub calculations : List (List ℕ)
calculations = codes "setexpr" ∷ codes "setexpr.b" ∷ codes "setexpr.w" ∷ codes "setexpr.l" ∷ codes "setexpr.q" ∷ []

abbrev pub is_calculation : Option (List ℕ) → Bool
is_calculation None = false
is_calculation (Some name) = is_word_of calculations name

-- the first argument, if it is without a substitution
abbrev pub first_name : List (List Atom) → List (List ℕ)
first_name [] = []
first_name (word ∷ words) = option_to_list (literal_of word)

-- the words behind `-f`, if that is there
abbrev pub without_force : List (List Atom) → List (List Atom)
without_force [] = []
without_force (word ∷ words) = if is_called (codes "-f") (literal_of word) then words else word ∷ words

-- by `setenv`
abbrev pub set_by : List (List Atom) → List (List ℕ)
set_by words = first_name (without_force words)

-- by `env`, which sets as `setenv` does, or asks whether a variable is there
abbrev pub foreseen_by_env : Shell → List (List Atom) → List (List ℕ)
foreseen_by_env shell [] = []
foreseen_by_env shell (word ∷ words) =
    if is_after_env shell 2 (codes "set") (literal_of word) then set_by words
    else if is_after_env shell 3 (codes "exists") (literal_of word) then first_name words
    else []

-- by a command of this name with these arguments
abbrev pub foreseen_as : Shell → (called : Option (List ℕ)) → List (List Atom) → List (List ℕ)
foreseen_as shell called words =
    if is_test called then flat_map substituted words
    else if is_called (codes "setenv") called then set_by words
    else if is_called (codes "env") called then foreseen_by_env shell words
    else if is_calculation called then first_name words
    else []

abbrev pub foreseen_by : Given → List (List Atom) → List (List ℕ)
foreseen_by given [] = []
foreseen_by given (word ∷ words) = foreseen_as given.shell (called_by given word) words

abbrev pub foreseen_names : Given → Statement → List (List ℕ)
foreseen_names given (Calls s words) = foreseen_by given words
foreseen_names given (Assigns s name value) = []
foreseen_names given (Binds s name words) = []

-- those that the script of a text foresees
abbrev pub foreseen_in : Given → List ℕ → List (List ℕ)
foreseen_in given text = flat_map (foreseen_names given) (statements_in (bodies_of given.shell) false text)

-- ---- names whose variables are written: a command sets them to a value

-- the first argument of several, if it is without a substitution; without a second one `setenv` deletes
abbrev pub first_of_several : List (List Atom) → List (List ℕ)
first_of_several [] = []
first_of_several (word ∷ []) = []
first_of_several (word ∷ value ∷ words) = option_to_list (literal_of word)

abbrev pub written_by_set : List (List Atom) → List (List ℕ)
written_by_set words = first_of_several (without_force words)

abbrev pub written_by_env : Shell → List (List Atom) → List (List ℕ)
written_by_env shell [] = []
written_by_env shell (word ∷ words) = if is_after_env shell 2 (codes "set") (literal_of word) then written_by_set words else []

-- by a command of this name with these arguments
abbrev pub written_as : Shell → (called : Option (List ℕ)) → List (List Atom) → List (List ℕ)
written_as shell called words =
    if is_called (codes "setenv") called then written_by_set words
    else if is_called (codes "env") called then written_by_env shell words
    else if is_calculation called then first_of_several words
    else []

abbrev pub written_by : Given → List (List Atom) → List (List ℕ)
written_by given [] = []
written_by given (word ∷ words) = written_as given.shell (called_by given word) words

abbrev pub written_names : Given → Statement → List (List ℕ)
written_names given (Calls s words) = written_by given words
written_names given (Assigns s name value) = []
written_names given (Binds s name words) = []

-- those that the script of a text writes
abbrev pub written_in : Given → List ℕ → List (List ℕ)
written_in given text = flat_map (written_names given) (statements_in (bodies_of given.shell) false text)
