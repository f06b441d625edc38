-- Where the shells differ in a simple command and in the list of a `for` (docs/runs.md, "Boards").
use Rattle.std.specs.Prelude.{ℕ, ◌==◌, ◌||◌, Bool, List, Option, Some}
use Rattle.std.specs.List.{flat_map}
use Rattle.hush_words.specs.Words.{Atom}
use Rattle.hush_calc.specs.Test.{test_of}
use Rattle.hush_calc.specs.Board.{board_test_of}
use Rattle.hush_commands.specs.Hardware.{Hardware, is_there}
use Rattle.hush_commands.specs.Expansion.{Known, fields, cut_items, expanded, expanded_whole}
use Rattle.hush_commands.specs.Statuses.{status_of, status_in_front}
use Rattle.hush_commands.specs.declared.shell.Shell.{Shell}
use Rattle.hush_commands.specs.declared.shell.Shell.TheVariants.{Strict, Board}

-- the status that is left where nothing is run: no branch of an `if`, no field of a command
abbrev pub kept_status : Shell → ℕ → ℕ
kept_status Strict status = 0
kept_status Board status = status

-- the status of an `exit` without one
abbrev pub exit_status : Shell → ℕ → ℕ
exit_status Strict status = status
exit_status Board status = 0

-- the status of an `exit` with this word, if it may have it: a board takes any word
abbrev pub exit_word : Shell → List ℕ → Option ℕ
exit_word Strict word = status_of word
exit_word Board word = Some (status_in_front word)

-- the command `test`; a board's `-e` asks what stands in for hardware
abbrev pub test_by : Shell → Hardware → List (List ℕ) → Bool
test_by Strict h words = test_of words
test_by Board h words = board_test_of (is_there h) words

-- the words of the list of a `for`, as they are expanded: a board cuts none of them by itself
abbrev pub list_words : Shell → Known → ℕ → List (List Atom) → Option (List (List ℕ))
list_words Strict known limit words = expanded known limit words
list_words Board known limit words = expanded_whole known limit words

-- space and newline
abbrev pub cuts_list : ℕ → Bool
cuts_list b = b == 32 || b == 10

-- the list of a `for`: a board cuts its words, quoted or not, and drops the empty pieces
abbrev pub cut_words : List (List ℕ) → List (List ℕ)
cut_words words = flat_map (λ word. fields (cut_items cuts_list word)) words

abbrev pub list_by : Shell → List (List ℕ) → List (List ℕ)
list_by Strict words = words
list_by Board words = cut_words words
