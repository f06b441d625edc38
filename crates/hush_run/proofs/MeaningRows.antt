-- Worked examples of docs/runs.md, "Meaning", which the checker computes from the definitions, from a script's bytes on.
use Rattle.std.proofs.Common.{◌≡◌, ℕ, true, false, ◌∷◌, List, [], codes, refl, Option, Some, None, option_map}
use Rattle.std.specs.FinMap.{empty, get, insert, get-empty, get-insert}
use Rattle.std.specs.Cmp.Lexicographic.{nat_list_cmp_total}
use Rattle.std.specs.Fmt.{digits}
use Rattle.env_session.specs.Session.{Held}
use Rattle.hush_words.specs.Words.{is_blank, is_in_braces, ends_word, begins_name, is_in_name, follows_dollar, is_special, is_bare, is_inner, is_escaped}
use Rattle.hush_words.specs.Reading.{dollar_at, inner_escape, inner_at, double_at, piece_at, passed_at, lexeme_at, tokens_of}
use Rattle.hush_words.specs.Forms.{is_plain, name_of, assignment_of}
use Rattle.hush_syntax.specs.Keywords.{keyword_of}
use Rattle.hush_syntax.specs.Reading.{command, read, read_in}
use Rattle.hush_commands.specs.Builtins.{builtin_of}
use Rattle.hush_commands.specs.Expansion.{fields}
use Rattle.envimg_core.specs.declared.geometry.Layout.TheVariants.{Single}
use Rattle.run_limits.specs.Limits.{bounds, asking_saves}
use Rattle.hush_commands.specs.Saves.{is_save}
use Rattle.hush_commands.specs.declared.departure.Departure.{Departure}
use Rattle.hush_commands.specs.declared.departure.Leaving.TheVariants.{Boots, Asks}
use Rattle.hush_commands.specs.declared.stand_ins.Role.{Role}
use Rattle.hush_commands.specs.Stubs.{Statuses}
use Rattle.hush_commands.specs.declared.board_rules.Reply.TheVariants.{Status, Text}
use Rattle.hush_commands.specs.Hardware.{hardware, open_file}
use Rattle.hush_commands.specs.declared.shell.Shell.TheVariants.{Strict, Board}
use Rattle.hush_run.specs.Runs.{rules, rules_in}
use Rattle.hush_run.specs.Meaning.Reason.{Finished, Exited, Steps, Depth, Word, Output}
use Rattle.hush_run.specs.Meaning.{Reason, Rules, State, step, effect, turns, start, looked_up, meaning, place, bodies_of}

-- what a run reports: ending, status, counted steps and text
abbrev Told : Type 0
Told = Reason × ℕ × ℕ × List ℕ

abbrev told : Reason × State → Told
told run = (run.0, run.1.status, run.1.steps, run.1.printed.text)

-- limits, and no stand-ins
abbrev under : (steps depth word output : ℕ) → Rules
under steps depth word output = rules (let none : Statuses = empty in none) (bounds steps depth word output)

abbrev usual : Rules
usual = under 1000 4 256 4096

-- the same on a board
abbrev board : Rules
board = rules_in Board (hardware [] (let none : Statuses = empty in none)) (bounds 1000 4 256 4096)

-- what the run of a text evaluates to, if the text is a script
abbrev comes_to : Rules → Held → List ℕ → Option Told
comes_to rules held text = option_map (λ tree. told (meaning rules tree held)) (read text)

-- the same where bodies may be empty
abbrev comes_in : Rules → Held → List ℕ → Option Told
comes_in rules held text = option_map (λ tree. told (meaning rules tree held)) (read_in (bodies_of rules.shell) text)

-- the variable in whose text that run ends
abbrev ends_in : Rules → Held → List ℕ → Option (Option (List ℕ))
ends_in rules held text = option_map (λ tree. place rules tree held) (read text)

-- a text without a command
no_command : (held : Held) → comes_to usual held (codes "# nothing") ≡ Some (Finished, 0, 0, [])
unfolding read read_in tokens_of lexeme_at passed_at piece_at is_bare ends_word is_special is_blank command keyword_of is_plain name_of assignment_of begins_name is_in_name meaning step builtin_of effect fields
no_command held = refl

-- a chain goes from the left
and_or : (held : Held) → comes_to usual held (codes "false && echo a || echo b") ≡ Some (Finished, 0, 2, codes "b\n")
unfolding read read_in tokens_of lexeme_at passed_at piece_at is_bare ends_word is_special is_blank command keyword_of is_plain name_of assignment_of begins_name is_in_name meaning step builtin_of effect fields
and_or held = refl

-- both joints have the same rank
or_and : (held : Held) → comes_to usual held (codes "true || echo a && echo b") ≡ Some (Finished, 0, 2, codes "b\n")
unfolding read read_in tokens_of lexeme_at passed_at piece_at is_bare ends_word is_special is_blank command keyword_of is_plain name_of assignment_of begins_name is_in_name meaning step builtin_of effect fields
or_and held = refl

-- no branch runs
no_branch : (held : Held) → comes_to usual held (codes "if false; then echo a; fi") ≡ Some (Finished, 0, 1, [])
unfolding read read_in tokens_of lexeme_at passed_at piece_at is_bare ends_word is_special is_blank command keyword_of is_plain name_of assignment_of begins_name is_in_name meaning step builtin_of effect fields
no_branch held = refl

-- the first branch whose condition holds
later_branch : (held : Held) → comes_to usual held (codes "if false; then echo a; elif true; then echo b; else echo c; fi") ≡ Some (Finished, 0, 3, codes "b\n")
unfolding read read_in tokens_of lexeme_at passed_at piece_at is_bare ends_word is_special is_blank command keyword_of is_plain name_of assignment_of begins_name is_in_name meaning step builtin_of effect fields
later_branch held = refl

-- the status is that of the branch
branch_status : (held : Held) → comes_to usual held (codes "if false; true; then false; else echo c; fi") ≡ Some (Finished, 1, 3, [])
unfolding read read_in tokens_of lexeme_at passed_at piece_at is_bare ends_word is_special is_blank command keyword_of is_plain name_of assignment_of begins_name is_in_name meaning step builtin_of effect fields
branch_status held = refl

-- a loop without a turn
no_turn : (held : Held) → comes_to usual held (codes "while false; do echo a; done; echo $?") ≡ Some (Finished, 0, 2, codes "0\n")
unfolding read read_in tokens_of lexeme_at passed_at piece_at is_bare ends_word is_special is_blank command keyword_of is_plain name_of assignment_of begins_name is_in_name dollar_at follows_dollar digits turns meaning step builtin_of effect fields
no_turn held = refl

-- a loop that never ends
endless : (held : Held) → comes_to (under 10 4 256 4096) held (codes "while true; do echo -n a; done") ≡ Some (Steps, 0, 10, codes "aaaaa")
unfolding read read_in tokens_of lexeme_at passed_at piece_at is_bare ends_word is_special is_blank command keyword_of is_plain name_of assignment_of begins_name is_in_name turns meaning step builtin_of effect fields
endless held = refl

-- a for without fields
no_fields : (held : Held) → comes_to usual held (codes "false; for i in; do echo a; done; echo $?") ≡ Some (Finished, 0, 3, codes "0\n")
unfolding read read_in tokens_of lexeme_at passed_at piece_at is_bare ends_word is_special is_blank command keyword_of is_plain name_of assignment_of begins_name is_in_name dollar_at follows_dollar digits meaning step builtin_of effect fields
no_fields held = refl

-- the status at the end of an if belongs to no step
status_of_no_step : (held : Held) → comes_to (under 1 4 256 4096) held (codes "if false; then a; fi; echo") ≡ Some (Steps, 0, 1, [])
unfolding read read_in tokens_of lexeme_at passed_at piece_at is_bare ends_word is_special is_blank command keyword_of is_plain name_of assignment_of begins_name is_in_name meaning step builtin_of effect fields
status_of_no_step held = refl

-- no step may be counted
no_step : (held : Held) → comes_to (under 0 4 256 4096) held (codes "exit") ≡ Some (Steps, 0, 0, [])
unfolding read read_in tokens_of lexeme_at passed_at piece_at is_bare ends_word is_special is_blank command keyword_of is_plain name_of assignment_of begins_name is_in_name meaning step builtin_of effect fields
no_step held = refl

-- an exit without a word
exit_with_the_status : (held : Held) → comes_to usual held (codes "false; exit; echo a") ≡ Some (Exited, 1, 2, [])
unfolding read read_in tokens_of lexeme_at passed_at piece_at is_bare ends_word is_special is_blank command keyword_of is_plain name_of assignment_of begins_name is_in_name meaning step builtin_of effect fields
exit_with_the_status held = refl

-- an exit within a loop
exit_from_a_loop : (held : Held) → comes_to usual held (codes "while true; do echo a; exit 3; done; echo b") ≡ Some (Exited, 3, 3, codes "a\n")
unfolding read read_in tokens_of lexeme_at passed_at piece_at is_bare ends_word is_special is_blank command keyword_of is_plain name_of assignment_of begins_name is_in_name turns meaning step builtin_of effect fields
exit_from_a_loop held = refl

-- an exit with another word
wrong_exit : (held : Held) → comes_to usual held (codes "exit x; echo $?") ≡ Some (Finished, 0, 2, codes "## Error: wrong use of 'exit'\n1\n")
unfolding read read_in tokens_of lexeme_at passed_at piece_at is_bare ends_word is_special is_blank command keyword_of is_plain name_of assignment_of begins_name is_in_name dollar_at follows_dollar digits meaning step builtin_of effect fields
wrong_exit held = refl

-- a text that doesn't fit
text_too_long : (held : Held) → comes_to (under 1000 4 256 3) held (codes "echo ab; echo c") ≡ Some (Output, 0, 1, codes "ab\n")
unfolding read read_in tokens_of lexeme_at passed_at piece_at is_bare ends_word is_special is_blank command keyword_of is_plain name_of assignment_of begins_name is_in_name meaning step builtin_of effect fields
text_too_long held = refl

-- a word that is too large
word_too_large : (held : Held) → comes_to (under 1000 4 8 4096) held (codes "false; echo abcdefghi") ≡ Some (Word, 1, 1, [])
unfolding read read_in tokens_of lexeme_at passed_at piece_at is_bare ends_word is_special is_blank command keyword_of is_plain name_of assignment_of begins_name is_in_name meaning step builtin_of effect fields
word_too_large held = refl

-- numbers compared
compared : (held : Held) → comes_to usual held (codes "test 010 -eq 8 && echo c") ≡ Some (Finished, 0, 2, codes "c\n")
unfolding read read_in tokens_of lexeme_at passed_at piece_at is_bare ends_word is_special is_blank command keyword_of is_plain name_of assignment_of begins_name is_in_name meaning step builtin_of effect fields
compared held = refl

-- a name that isn't there
absent_name : (held : Held) → get held.now.env (codes "z") ≡ None → comes_to usual held (codes "run z") ≡ Some (Finished, 1, 2, codes "## Error: \"z\" not defined\n")
unfolding read read_in tokens_of lexeme_at passed_at piece_at is_bare ends_word is_special is_blank command keyword_of is_plain name_of assignment_of begins_name is_in_name start meaning step builtin_of effect fields
absent_name held h = simp (h, looked_up)

-- a value that isn't a script
no_script : (held : Held) → get held.now.env (codes "a") ≡ Some (codes "if") → comes_to usual held (codes "run a") ≡ Some (Finished, 1, 2, codes "## Error: syntax error in \"a\"\n")
unfolding read read_in tokens_of lexeme_at passed_at piece_at is_bare ends_word is_special is_blank command keyword_of is_plain name_of assignment_of begins_name is_in_name start meaning step builtin_of effect fields
no_script held h = simp (h, looked_up)

-- a value that starts itself
starts_itself : (held : Held) → get held.now.env (codes "r") ≡ Some (codes "run r") → comes_to (under 1000 1 256 4096) held (codes "run r") ≡ Some (Depth, 0, 3, [])
unfolding read read_in tokens_of lexeme_at passed_at piece_at is_bare ends_word is_special is_blank command keyword_of is_plain name_of assignment_of begins_name is_in_name start meaning step builtin_of effect fields
starts_itself held h = simp (h, looked_up)

-- a start that fails is the last
first_that_fails : (held : Held) → get held.now.env (codes "a") ≡ Some (codes "echo 1; false") → comes_to usual held (codes "run a b; echo $?") ≡ Some (Finished, 0, 5, codes "1\n1\n")
unfolding read read_in tokens_of lexeme_at passed_at piece_at is_bare ends_word is_special is_blank command keyword_of is_plain name_of assignment_of begins_name is_in_name dollar_at follows_dollar digits start meaning step builtin_of effect fields
first_that_fails held h = simp (h, looked_up)

-- if a limit is met in a text that was started, that is its place
place_of_a_start : (held : Held) → get held.now.env (codes "r") ≡ Some (codes "run r") → ends_in (under 1000 1 256 4096) held (codes "run r") ≡ Some (Some (codes "r"))
unfolding read read_in tokens_of lexeme_at passed_at piece_at is_bare ends_word is_special is_blank command keyword_of is_plain name_of assignment_of begins_name is_in_name start place step builtin_of effect fields
place_of_a_start held h = simp (h, looked_up)

-- and after it, it's the text that started it
place_after_a_start : (held : Held) → get held.now.env (codes "a") ≡ Some (codes "echo 1") → ends_in (under 4 4 256 4096) held (codes "run a; echo 2; echo 3") ≡ Some None
unfolding read read_in tokens_of lexeme_at passed_at piece_at is_bare ends_word is_special is_blank command keyword_of is_plain name_of assignment_of begins_name is_in_name start place step builtin_of effect fields
place_after_a_start held h = simp (h, looked_up)

-- an exit within a started value
exit_from_a_start : (held : Held) → get held.now.env (codes "a") ≡ Some (codes "exit 3; echo x") → comes_to usual held (codes "run a; echo y") ≡ Some (Exited, 3, 3, [])
unfolding read read_in tokens_of lexeme_at passed_at piece_at is_bare ends_word is_special is_blank command keyword_of is_plain name_of assignment_of begins_name is_in_name start meaning step builtin_of effect fields
exit_from_a_start held h = simp (h, looked_up)

-- an unknown command
unknown_command : (held : Held) → comes_to usual held (codes "ls") ≡ Some (Finished, 1, 1, codes "Unknown command 'ls' - try 'help'\n")
unfolding read read_in tokens_of lexeme_at passed_at piece_at is_bare ends_word is_special is_blank command keyword_of is_plain name_of assignment_of begins_name is_in_name meaning step builtin_of effect fields
unknown_command held = simp get-empty

-- at most 4 steps, and `booti` with this status, which boots
abbrev booting : ℕ → Rules
booting status =
    rules (let none : Statuses = empty in insert none (codes "booti") (record { status = status; leaves = Some Boots })) (bounds 4 4 256 4096)

-- a boot in a loop
boot_from_a_loop : (held : Held) → comes_to (booting 0) held (codes "while true; do booti 0; echo a; done; echo b") ≡ Some (Exited, 0, 2, codes "+ booti 0\n")
unfolding read read_in tokens_of lexeme_at passed_at piece_at is_bare ends_word is_special is_blank command keyword_of is_plain name_of assignment_of begins_name is_in_name turns meaning step builtin_of effect fields
boot_from_a_loop held = simp (get-insert {X = Role} nat_list_cmp_total)

-- a boot that fails
failed_boot : (held : Held) → comes_to (booting 1) held (codes "booti 0 || echo a") ≡ Some (Finished, 0, 2, codes "+ booti 0\na\n")
unfolding read read_in tokens_of lexeme_at passed_at piece_at is_bare ends_word is_special is_blank command keyword_of is_plain name_of assignment_of begins_name is_in_name meaning step builtin_of effect fields
failed_boot held = simp (get-insert {X = Role} nat_list_cmp_total)

-- a boot within a started value
boot_from_a_start : (held : Held) → get held.now.env (codes "a") ≡ Some (codes "booti; echo x") → comes_to (booting 0) held (codes "run a || echo y; echo z") ≡ Some (Exited, 0, 3, codes "+ booti\n")
unfolding read read_in tokens_of lexeme_at passed_at piece_at is_bare ends_word is_special is_blank command keyword_of is_plain name_of assignment_of begins_name is_in_name start meaning step builtin_of effect fields
boot_from_a_start held h = simp (h, looked_up, get-insert {X = Role} nat_list_cmp_total)

-- a deletion of a name that isn't there
deleted : (held : Held) → get held.now.env (codes "q") ≡ None → comes_to usual held (codes "env delete q; true") ≡ Some (Finished, 0, 3, codes "## Error: \"q\" not defined\n")
unfolding read read_in tokens_of lexeme_at passed_at piece_at is_bare ends_word is_special is_blank command keyword_of is_plain name_of assignment_of begins_name is_in_name meaning step builtin_of effect fields
deleted held h = simp h

-- an assignment to a variable of the environment
refused_name : (held : Held) → get held.now.env (codes "x") ≡ Some (codes "a") → comes_to usual held (codes "x=1; echo $?") ≡ Some (Finished, 0, 2, codes "## Error: \"x\" is an environment variable\n1\n")
unfolding read read_in tokens_of lexeme_at passed_at piece_at is_bare ends_word is_special is_blank command keyword_of is_plain name_of assignment_of begins_name is_in_name dollar_at follows_dollar digits meaning step builtin_of effect fields
refused_name held h = simp h

-- a local variable
local_variable : (held : Held) → get held.now.env (codes "x") ≡ None → comes_to usual held (codes "x=a; echo $x") ≡ Some (Finished, 0, 2, codes "a\n")
unfolding read read_in tokens_of lexeme_at passed_at piece_at is_bare ends_word is_special is_blank command keyword_of is_plain name_of assignment_of begins_name is_in_name dollar_at follows_dollar meaning step builtin_of effect fields
local_variable held h = simp (h, get-insert {X = List ℕ} nat_list_cmp_total)

-- the status of the last body
last_body : (held : Held) → get held.now.env (codes "x") ≡ None → comes_to (under 4 4 256 4096) held (codes "until test $x = a; do x=a; false; done") ≡ Some (Finished, 1, 4, [])
unfolding read read_in tokens_of lexeme_at passed_at piece_at is_bare ends_word is_special is_blank command keyword_of is_plain name_of assignment_of begins_name is_in_name dollar_at follows_dollar turns meaning step builtin_of effect fields
last_body held h = simp (h, get-insert {X = List ℕ} nat_list_cmp_total, get-empty)

-- one field after the other
each_field : (held : Held) → get held.now.env (codes "i") ≡ None → comes_to usual held (codes "for i in a b; do echo x; done") ≡ Some (Finished, 0, 5, codes "x\nx\n")
unfolding read read_in tokens_of lexeme_at passed_at piece_at is_bare ends_word is_special is_blank command keyword_of is_plain name_of assignment_of begins_name is_in_name dollar_at follows_dollar meaning step builtin_of effect fields
each_field held h = simp (h, get-insert {X = List ℕ} nat_list_cmp_total)

-- words are cut, except what is in quotes
fields_of_words : (held : Held) → get held.now.env (codes "x") ≡ None → comes_to usual held (codes "x=\"1 2\"; echo $x \"3 4\" \"\"") ≡ Some (Finished, 0, 2, codes "1 2 3 4 \n")
unfolding read read_in tokens_of lexeme_at passed_at piece_at is_bare ends_word is_special is_blank command keyword_of is_plain name_of assignment_of begins_name is_in_name dollar_at follows_dollar double_at inner_at inner_escape is_inner is_escaped meaning step builtin_of effect fields
fields_of_words held h = simp (h, get-insert {X = List ℕ} nat_list_cmp_total)

-- Where a board differs.

-- a skipped command skips the rest of its chain
board_and_or : (held : Held) → comes_to board held (codes "false && echo a || echo b; echo c") ≡ Some (Finished, 0, 2, codes "c\n")
unfolding read read_in tokens_of lexeme_at passed_at piece_at is_bare ends_word is_special is_blank command keyword_of is_plain name_of assignment_of begins_name is_in_name dollar_at follows_dollar digits turns meaning step builtin_of effect fields
board_and_or held = refl

-- no branch runs
board_no_branch : (held : Held) → comes_to board held (codes "if false; then echo a; fi") ≡ Some (Finished, 1, 1, [])
unfolding read read_in tokens_of lexeme_at passed_at piece_at is_bare ends_word is_special is_blank command keyword_of is_plain name_of assignment_of begins_name is_in_name dollar_at follows_dollar digits turns meaning step builtin_of effect fields
board_no_branch held = refl

-- the status of a loop is that of its last condition
board_no_turn : (held : Held) → comes_to board held (codes "while false; do echo a; done; echo $?") ≡ Some (Finished, 0, 2, codes "1\n")
unfolding read read_in tokens_of lexeme_at passed_at piece_at is_bare ends_word is_special is_blank command keyword_of is_plain name_of assignment_of begins_name is_in_name dollar_at follows_dollar digits turns meaning step builtin_of effect fields
board_no_turn held = refl

-- a binding has status 0
board_binding : (held : Held) → comes_to board held (codes "false; for i in a; do echo $?; done") ≡ Some (Finished, 0, 4, codes "0\n")
unfolding read read_in tokens_of lexeme_at passed_at piece_at is_bare ends_word is_special is_blank command keyword_of is_plain name_of assignment_of begins_name is_in_name dollar_at follows_dollar digits turns meaning step builtin_of effect fields
board_binding held = refl

-- quoted words of a list are cut, and empty ones dropped
board_list : (held : Held) → comes_to board held (codes "for i in \"a b\" \"\"; do echo x; done") ≡ Some (Finished, 0, 5, codes "x\nx\n")
unfolding read read_in tokens_of lexeme_at passed_at piece_at inner_at double_at inner_escape is_inner is_escaped is_bare ends_word is_special is_blank command keyword_of is_plain name_of assignment_of begins_name is_in_name dollar_at follows_dollar digits turns meaning step builtin_of effect fields
board_list held = refl

-- words that are no expression
board_test : (held : Held) → comes_to board held (codes "test -eq 1 && echo yes") ≡ Some (Finished, 0, 2, codes "yes\n")
unfolding read read_in tokens_of lexeme_at passed_at piece_at is_bare ends_word is_special is_blank command keyword_of is_plain name_of assignment_of begins_name is_in_name dollar_at follows_dollar digits turns meaning step builtin_of effect fields open_file
board_test held = refl

-- an empty body leaves the status
board_empty_then : (held : Held) → comes_in board held (codes "false; if true; then; fi; echo $?") ≡ Some (Finished, 0, 4, codes "0\n")
unfolding read_in tokens_of lexeme_at passed_at piece_at is_bare ends_word is_special is_blank command keyword_of is_plain name_of assignment_of begins_name is_in_name dollar_at follows_dollar digits turns meaning step builtin_of effect fields
board_empty_then held = refl

-- also after `else`
board_empty_else : (held : Held) → comes_in board held (codes "if false; then; else fi; echo $?") ≡ Some (Finished, 0, 3, codes "1\n")
unfolding read_in tokens_of lexeme_at passed_at piece_at is_bare ends_word is_special is_blank command keyword_of is_plain name_of assignment_of begins_name is_in_name dollar_at follows_dollar digits turns meaning step builtin_of effect fields
board_empty_else held = refl

-- a loop with an empty body
board_empty_while : (held : Held) → comes_in board held (codes "while false; do ; done; echo $?") ≡ Some (Finished, 0, 2, codes "1\n")
unfolding read_in tokens_of lexeme_at passed_at piece_at is_bare ends_word is_special is_blank command keyword_of is_plain name_of assignment_of begins_name is_in_name dollar_at follows_dollar digits turns meaning step builtin_of effect fields
board_empty_while held = refl

-- a binding and nothing else
board_empty_for : (held : Held) → comes_in board held (codes "false; for i in a; do done; echo $?") ≡ Some (Finished, 0, 5, codes "0\n")
unfolding read_in tokens_of lexeme_at passed_at piece_at is_bare ends_word is_special is_blank command keyword_of is_plain name_of assignment_of begins_name is_in_name dollar_at follows_dollar digits turns meaning step builtin_of effect fields
board_empty_for held = refl

-- What a board answers calls of `load` with, and of `booti`, when this many levels may be opened.
abbrev loads : List ℕ → (depth : ℕ) → Rules
loads text depth =
    rules_in Strict
    (hardware
    (record { pattern = record { text = codes "load"; begins = false } ∷ record { text = codes "mm"; begins = true } ∷ []; whole = false; reply = Text text }
    ∷ record { pattern = record { text = codes "load"; begins = false } ∷ []; whole = false; reply = Status 1 None }
    ∷ record { pattern = record { text = codes "booti"; begins = false } ∷ []; whole = false; reply = Status 0 (Some Boots) }
    ∷ [])
    (let none : Statuses = empty in none))
    (bounds 1000 depth 256 4096)

-- the text sees the call's words, and its status is the command's
answer_text : (held : Held) → get held.now.env (codes "2") ≡ None → comes_to (loads (codes "echo ${2}; false") 1) held (codes "load mmc 1:2 || echo $?") ≡ Some (Finished, 0, 5, codes "+ load mmc 1:2\n1:2\n1\n")
unfolding read read_in tokens_of lexeme_at passed_at piece_at is_bare ends_word is_special is_blank command keyword_of is_plain name_of assignment_of begins_name is_in_name dollar_at is_in_braces follows_dollar digits turns start meaning place step builtin_of effect fields
answer_text held h = simp (h, get-insert {X = List ℕ} nat_list_cmp_total)

-- a text that changes a local variable
answer_keeps : (held : Held) → get held.now.env (codes "x") ≡ None → comes_to (loads (codes "x=a") 1) held (codes "load mmc && echo $x") ≡ Some (Finished, 0, 4, codes "+ load mmc\na\n")
unfolding read read_in tokens_of lexeme_at passed_at piece_at is_bare ends_word is_special is_blank command keyword_of is_plain name_of assignment_of begins_name is_in_name dollar_at is_in_braces follows_dollar digits turns start meaning place step builtin_of effect fields
answer_keeps held h = simp (h, get-insert {X = List ℕ} nat_list_cmp_total)

-- the first rule that fits
answer_second : (held : Held) → comes_to (loads (codes "true") 1) held (codes "load usb || echo a; booti; echo b") ≡ Some (Exited, 0, 3, codes "+ load usb\na\n+ booti\n")
unfolding read read_in tokens_of lexeme_at passed_at piece_at is_bare ends_word is_special is_blank command keyword_of is_plain name_of assignment_of begins_name is_in_name dollar_at is_in_braces follows_dollar digits turns start meaning place step builtin_of effect fields
answer_second held = refl

-- a text that calls what it answers
answer_again : (held : Held) → comes_to (loads (codes "load mmc") 2) held (codes "load mmc; echo a") ≡ Some (Depth, 0, 5, codes "+ load mmc\n+ load mmc\n+ load mmc\n")
unfolding read read_in tokens_of lexeme_at passed_at piece_at is_bare ends_word is_special is_blank command keyword_of is_plain name_of assignment_of begins_name is_in_name dollar_at is_in_braces follows_dollar digits turns start meaning place step builtin_of effect fields
answer_again held = refl

-- an end in a text is placed where the call was
answer_exit : (held : Held) → comes_to (loads (codes "exit 3") 1) held (codes "load mmc; echo a") ≡ Some (Exited, 3, 3, codes "+ load mmc\n")
unfolding read read_in tokens_of lexeme_at passed_at piece_at is_bare ends_word is_special is_blank command keyword_of is_plain name_of assignment_of begins_name is_in_name dollar_at is_in_braces follows_dollar digits turns start meaning place step builtin_of effect fields
answer_exit held = refl

answer_place : (held : Held) → ends_in (loads (codes "exit 3") 1) held (codes "load mmc; echo a") ≡ Some None
unfolding read read_in tokens_of lexeme_at passed_at piece_at is_bare ends_word is_special is_blank command keyword_of is_plain name_of assignment_of begins_name is_in_name dollar_at is_in_braces follows_dollar digits turns start meaning place step builtin_of effect fields
answer_place held = refl

answer_in_a_start : (held : Held) → get held.now.env (codes "a") ≡ Some (codes "load mmc") → ends_in (loads (codes "exit 3") 2) held (codes "run a") ≡ Some (Some (codes "a"))
unfolding read read_in tokens_of lexeme_at passed_at piece_at is_bare ends_word is_special is_blank command keyword_of is_plain name_of assignment_of begins_name is_in_name dollar_at is_in_braces follows_dollar digits turns start meaning place step builtin_of effect fields
answer_in_a_start held h = simp (h, looked_up)

-- An `exit` of a board leaves the text that was started, with its status.
abbrev board_loads : List ℕ → Rules
board_loads text = record (loads text 1) { shell = Board }

board_exit : (held : Held) → comes_to (board_loads (codes "exit 3; echo b")) held (codes "load mmc; echo $?") ≡ Some (Finished, 0, 4, codes "+ load mmc\n3\n")
unfolding read read_in tokens_of lexeme_at passed_at piece_at inner_at double_at inner_escape is_inner is_escaped is_bare ends_word is_special is_blank command keyword_of is_plain name_of assignment_of begins_name is_in_name dollar_at is_in_braces follows_dollar digits turns start meaning place step builtin_of effect fields
board_exit held = refl

-- from inside an `if` or a loop with 0
board_exit_inside : (held : Held) → comes_to (board_loads (codes "if true; then exit 3; fi; echo b")) held (codes "load mmc; echo $?") ≡ Some (Finished, 0, 5, codes "+ load mmc\n0\n")
unfolding read read_in tokens_of lexeme_at passed_at piece_at inner_at double_at inner_escape is_inner is_escaped is_bare ends_word is_special is_blank command keyword_of is_plain name_of assignment_of begins_name is_in_name dollar_at is_in_braces follows_dollar digits turns start meaning place step builtin_of effect fields
board_exit_inside held = refl

board_exit_in_a_loop : (held : Held) → comes_to (board_loads (codes "for i in a b; do exit 3; done")) held (codes "load mmc || echo $?") ≡ Some (Finished, 0, 5, codes "+ load mmc\n")
unfolding read read_in tokens_of lexeme_at passed_at piece_at inner_at double_at inner_escape is_inner is_escaped is_bare ends_word is_special is_blank command keyword_of is_plain name_of assignment_of begins_name is_in_name dollar_at is_in_braces follows_dollar digits turns start meaning place step builtin_of effect fields
board_exit_in_a_loop held = refl

-- none that has a value among its words
board_exit_ignored : (held : Held) → comes_to (board_loads (codes "false; exit $?; echo $?")) held (codes "load mmc") ≡ Some (Finished, 0, 5, codes "+ load mmc\n1\n")
unfolding read read_in tokens_of lexeme_at passed_at piece_at inner_at double_at inner_escape is_inner is_escaped is_bare ends_word is_special is_blank command keyword_of is_plain name_of assignment_of begins_name is_in_name dollar_at is_in_braces follows_dollar digits turns start meaning place step builtin_of effect fields
board_exit_ignored held = refl

-- in the script itself it ends the run
board_exit_of_the_script : (held : Held) → comes_to board held (codes "exit 3; echo a") ≡ Some (Exited, 3, 1, [])
unfolding read read_in tokens_of lexeme_at passed_at piece_at inner_at double_at inner_escape is_inner is_escaped is_bare ends_word is_special is_blank command keyword_of is_plain name_of assignment_of begins_name is_in_name dollar_at is_in_braces follows_dollar digits turns start meaning place step builtin_of effect fields
board_exit_of_the_script held = refl

board_exit_without_status : (held : Held) → comes_to board held (codes "false; exit") ≡ Some (Exited, 0, 2, [])
unfolding read read_in tokens_of lexeme_at passed_at piece_at inner_at double_at inner_escape is_inner is_escaped is_bare ends_word is_special is_blank command keyword_of is_plain name_of assignment_of begins_name is_in_name dollar_at is_in_braces follows_dollar digits turns start meaning place step builtin_of effect fields
board_exit_without_status held = refl

-- `run` makes each other status a 1, but not that of an `exit`
abbrev board_mmc : Rules
board_mmc =
    rules_in Board
    (hardware (record { pattern = record { text = codes "mmc"; begins = false } ∷ []; whole = false; reply = Status 2 None } ∷ []) (let none : Statuses = empty in none))
    (bounds 1000 4 256 4096)

board_run_status : (held : Held) → get held.now.env (codes "f") ≡ Some (codes "mmc") → comes_to board_mmc held (codes "run f || echo $?") ≡ Some (Finished, 0, 4, codes "+ mmc\n1\n")
unfolding read read_in tokens_of lexeme_at passed_at piece_at inner_at double_at inner_escape is_inner is_escaped is_bare ends_word is_special is_blank command keyword_of is_plain name_of assignment_of begins_name is_in_name dollar_at is_in_braces follows_dollar digits turns start meaning place step builtin_of effect fields
board_run_status held h = simp (h, looked_up)

board_run_exit : (held : Held) → get held.now.env (codes "f") ≡ Some (codes "exit 2") → comes_to board held (codes "run f f; echo $?") ≡ Some (Finished, 0, 4, codes "2\n")
unfolding read read_in tokens_of lexeme_at passed_at piece_at inner_at double_at inner_escape is_inner is_escaped is_bare ends_word is_special is_blank command keyword_of is_plain name_of assignment_of begins_name is_in_name dollar_at is_in_braces follows_dollar digits turns start meaning place step builtin_of effect fields
board_run_exit held h = simp (h, looked_up)

-- Saves that are asked for.
abbrev asking : (from : ℕ) → Rules
asking from = rules_in Board (hardware [] (let none : Statuses = empty in none)) (asking_saves (bounds 1000 4 256 4096) from)

-- what the run of a text comes to, with the call at which it has left the board
abbrev Left : Type 0
Left = Told × Option Departure

abbrev leaves_at : Rules → Held → List ℕ → Option Left
leaves_at rules held text = option_map (λ tree. (told (meaning rules tree held), (meaning rules tree held).1.departure)) (read text)

abbrev asks : (words : List (List ℕ)) → Option Departure
asks words = Some (record { leaving = Asks; words = words })

-- the first save is asked for, and not done
first_save_asked : (held : Held) → leaves_at (asking 0) held (codes "false; saveenv; echo a") ≡ Some ((Exited, 1, 2, []), asks (codes "saveenv" ∷ []))
unfolding read read_in tokens_of lexeme_at passed_at piece_at is_bare ends_word is_special is_blank command keyword_of is_plain name_of assignment_of begins_name is_in_name meaning step builtin_of effect is_save fields
first_save_asked held = refl

-- once the first is done the second is, by its own words
second_save_asked : (held : Held) → held.shape.layout ≡ Single → leaves_at (asking 1) held (codes "saveenv; env sav && echo a") ≡ Some ((Exited, 0, 2, codes "Saved copy 1\n"), asks (codes "env" ∷ codes "sav" ∷ []))
unfolding read read_in tokens_of lexeme_at passed_at piece_at is_bare ends_word is_special is_blank command keyword_of is_plain name_of assignment_of begins_name is_in_name meaning step builtin_of effect is_save fields
second_save_asked held h = simp h

-- a save by a text that was started
started_save_asked : (held : Held) → get held.now.env (codes "s") ≡ Some (codes "echo a; saveenv") → leaves_at (asking 0) held (codes "run s; echo b") ≡ Some ((Exited, 0, 4, codes "a\n"), asks (codes "saveenv" ∷ []))
unfolding read read_in tokens_of lexeme_at passed_at piece_at is_bare ends_word is_special is_blank command keyword_of is_plain name_of assignment_of begins_name is_in_name start meaning step builtin_of effect is_save fields
started_save_asked held h = simp (h, looked_up)

-- none before the step from which on they are
save_before : (held : Held) → held.shape.layout ≡ Single → leaves_at (asking 1) held (codes "saveenv; echo a") ≡ Some ((Finished, 0, 2, codes "Saved copy 1\na\n"), None)
unfolding read read_in tokens_of lexeme_at passed_at piece_at is_bare ends_word is_special is_blank command keyword_of is_plain name_of assignment_of begins_name is_in_name meaning step builtin_of effect is_save fields
save_before held h = simp h

-- wrong use is no save
no_save_asked : (held : Held) → leaves_at (asking 0) held (codes "saveenv a") ≡ Some ((Finished, 1, 1, codes "## Error: wrong use of 'saveenv'\n"), None)
unfolding read read_in tokens_of lexeme_at passed_at piece_at is_bare ends_word is_special is_blank command keyword_of is_plain name_of assignment_of begins_name is_in_name meaning step builtin_of effect is_save fields
no_save_asked held = refl

-- the limit on steps comes first
save_past_the_steps : (held : Held) → leaves_at (record (asking 0) { limits = asking_saves (bounds 1 4 256 4096) 0 }) held (codes "true; saveenv") ≡ Some ((Steps, 0, 1, []), None)
unfolding read read_in tokens_of lexeme_at passed_at piece_at is_bare ends_word is_special is_blank command keyword_of is_plain name_of assignment_of begins_name is_in_name meaning step builtin_of effect is_save fields
save_past_the_steps held = refl
