-- Worked examples of docs/runs.md, "Commands", which the checker computes from the definitions.
use Rattle.std.proofs.Common.{◌≡◌, ℕ, Bool, true, false, List, [], ◌∷◌, None, Some, refl}
use Rattle.std.specs.Prelude.{codes, map, ◌++◌}
use Rattle.std.specs.Fmt.{digits}
use Rattle.std.specs.Cmp.Lexicographic.{nat_list_cmp_total}
use Rattle.std.specs.FinMap.{empty, get, insert, entries, get-insert, get-empty}
use Rattle.envimg_core.specs.Environment.{Environment}
use Rattle.env_session.specs.Session.{Held}
use Rattle.hush_commands.specs.declared.stand_ins.Role.{Role}
use Rattle.hush_commands.specs.declared.command.Command.TheVariants.{Set, Delete, Exists, Calculate, WrongUse, Other}
use Rattle.hush_commands.specs.declared.departure.Leaving.TheVariants.{Boots, Resets}
use Rattle.hush_commands.specs.declared.follow.Follow.{Follow}
use Rattle.hush_commands.specs.declared.follow.Follow.TheVariants.{Next, End, Leaves, Starts, Answers}
use Rattle.hush_commands.specs.Builtins.{builtin_of}
use Rattle.hush_commands.specs.declared.command.Command.{Command}
use Rattle.hush_commands.specs.Commands.{command_in}
use Rattle.hush_commands.specs.Shells.{exit_word}
use Rattle.hush_commands.specs.Stubs.{Statuses, leaving_of, with_leaving}
use Rattle.hush_commands.specs.declared.pattern.PatternWord.{PatternWord}
use Rattle.hush_commands.specs.declared.board_rules.Rule.{Rule}
use Rattle.hush_commands.specs.declared.board_rules.Reply.{Reply}
use Rattle.hush_commands.specs.declared.board_rules.Reply.TheVariants.{Status, Text, Lacks}
use Rattle.hush_commands.specs.Hardware.{Hardware, hardware, ruled, answer_to, with_words}
use Rattle.hush_commands.specs.CommandNames.{name_by, with_name}
use Rattle.hush_commands.specs.Output.{answer}
use Rattle.hush_commands.specs.declared.shell.Shell.{Shell}
use Rattle.hush_commands.specs.declared.shell.Shell.TheVariants.{Strict, Board}
use Rattle.hush_commands.specs.Carrying.{Done, done_of, other_of}
use Rattle.hush_commands.specs.Following.{follow_of}
use Rattle.hush_commands.specs.Saves.{is_save}
use Rattle.hush_commands.proofs.LocalLemmas.{get-unnumbered}

-- the command of the strict shell
abbrev command_of : List (List ℕ) → Command
command_of fields = let none : Statuses = empty in command_in Strict (hardware [] none) fields

set : command_of (codes "env" ∷ codes "set" ∷ codes "-f" ∷ codes "n" ∷ codes "1" ∷ []) ≡ Set true (codes "n") (codes "1" ∷ [])
unfolding builtin_of
set = refl

delete : command_of (codes "env" ∷ codes "delete" ∷ codes "-f" ∷ codes "n" ∷ []) ≡ Delete true (codes "n" ∷ [])
unfolding builtin_of
delete = refl

no_word : command_of (codes "env" ∷ []) ≡ WrongUse (codes "env")
unfolding builtin_of
no_word = refl

suffix : command_of (codes "setexpr.q" ∷ codes "n" ∷ codes "1" ∷ []) ≡ Calculate (codes "setexpr.q") (codes "n" ∷ codes "1" ∷ [])
unfolding builtin_of
suffix = refl

no_calculation : command_of (codes "setexpr" ∷ codes "n" ∷ codes "*1000" ∷ []) ≡ WrongUse (codes "setexpr")
unfolding builtin_of
no_calculation = refl

no_builtin : command_of (codes "envs" ∷ codes "set" ∷ []) ≡ Other (codes "envs") (codes "envs" ∷ codes "set" ∷ [])
unfolding builtin_of
no_builtin = refl

-- what follows if nothing has a stand-in
follow_after : List (List ℕ) → Follow
follow_after fields = let none : Statuses = empty in follow_of Strict (hardware [] none) fields

run_starts : follow_after (codes "run" ∷ codes "a" ∷ codes "b" ∷ []) ≡ Starts (codes "a" ∷ codes "b" ∷ [])
unfolding follow_after builtin_of
run_starts = refl

exit_ends : follow_after (codes "exit" ∷ codes "3" ∷ []) ≡ End None
unfolding follow_after builtin_of
exit_ends = refl

-- on a board it leaves its text, with status 0 if it has none
board_exit_leaves : let none : Statuses = empty in follow_of Board (hardware [] none) (codes "exit" ∷ []) ≡ Leaves
unfolding builtin_of
board_exit_leaves = refl

-- and takes any word, of which the digits in front count
exit_words : map (exit_word Board) (codes "08" ∷ codes "3x" ∷ codes "0x1f" ∷ codes "300" ∷ codes "abc" ∷ codes "-1" ∷ [] ∷ [])
    ≡ map Some (8 ∷ 3 ∷ 31 ∷ 255 ∷ 0 ∷ 0 ∷ 0 ∷ [])
exit_words = refl

wrong_exit_goes_on : follow_after (codes "exit" ∷ codes "256" ∷ []) ≡ Next
unfolding follow_after builtin_of
wrong_exit_goes_on = refl

-- what fields do after status 7 if nothing has a stand-in
done_in : Shell → List (List ℕ) → Held → Done
done_in shell fields held = let none : Statuses = empty in done_of shell (hardware [] none) fields 7 held

done : List (List ℕ) → Held → Done
done fields held = done_in Strict fields held

no_fields : (held : Held) → done [] held ≡ (answer 0 [], held)
unfolding done done_in
no_fields held = refl

-- a board leaves the status
board_no_fields : (held : Held) → done_in Board [] held ≡ (answer 7 [], held)
unfolding done_in
board_no_fields held = refl

-- and takes words that are no expression as true
board_test_of_no_expression : (held : Held) → done_in Board (codes "test" ∷ codes "-eq" ∷ codes "1" ∷ []) held ≡ (answer 0 [], held)
unfolding done_in builtin_of
board_test_of_no_expression held = refl

false_with_words : (held : Held) → done (codes "false" ∷ codes "x" ∷ []) held ≡ (answer 1 [], held)
unfolding done done_in builtin_of
false_with_words held = refl

run_without_names : (held : Held) → done (codes "run" ∷ []) held ≡ (answer 1 (codes "## Error: wrong use of 'run'\n"), held)
unfolding done done_in builtin_of
run_without_names held = refl

run_with_a_name : (held : Held) → done (codes "env" ∷ codes "run" ∷ codes "a" ∷ []) held ≡ (answer 7 [], held)
unfolding done done_in builtin_of
run_with_a_name held = refl

delete_without_names : (held : Held) → done (codes "env" ∷ codes "delete" ∷ codes "-f" ∷ []) held ≡ (answer 1 (codes "## Error: wrong use of 'env'\n"), held)
unfolding done done_in builtin_of
delete_without_names held = refl

save_with_words : (held : Held) → done (codes "saveenv" ∷ codes "x" ∷ []) held ≡ (answer 1 (codes "## Error: wrong use of 'saveenv'\n"), held)
unfolding done done_in builtin_of
save_with_words held = refl

-- what is a save, on a board
abbrev is_saving : List Rule → List (List ℕ) → Bool
is_saving rules fields = let none : Statuses = empty in is_save Board (hardware rules none) fields

saving : is_saving [] (codes "saveenv" ∷ []) ≡ true
unfolding is_save builtin_of
saving = refl

saving_by_its_beginning : is_saving [] (codes "env" ∷ codes "sa" ∷ []) ≡ true
unfolding is_save builtin_of
saving_by_its_beginning = refl

saving_with_words : is_saving [] (codes "env" ∷ codes "save" ∷ codes "x" ∷ []) ≡ false
unfolding is_save builtin_of
saving_with_words = refl

lacked_saving : is_saving (record { pattern = record { text = codes "saveenv"; begins = false } ∷ []; whole = false; reply = Lacks } ∷ []) (codes "saveenv" ∷ []) ≡ false
unfolding is_save builtin_of
lacked_saving = refl

exit_past_255 : (held : Held) → done (codes "exit" ∷ codes "256" ∷ []) held ≡ (answer 1 (codes "## Error: wrong use of 'exit'\n"), held)
unfolding done done_in builtin_of
exit_past_255 held = refl

unknown_command : other_of None 7 (codes "ls") (codes "ls" ∷ codes "-l" ∷ []) ≡ answer 1 (codes "Unknown command 'ls' - try 'help'\n")
unknown_command = refl

stand_in_command : other_of (Some (Status 3 None)) 7 (codes "mmc") (codes "mmc" ∷ codes "dev" ∷ []) ≡ answer 3 (codes "+ mmc dev\n")
stand_in_command = refl

-- a stand-in leaves the board if its status is 0
leaves_with_zero : map leaving_of (None ∷ Some (record { status = 0; leaves = Some Boots }) ∷ Some (record { status = 1; leaves = Some Resets }) ∷ Some (record { status = 0; leaves = Some Resets }) ∷ Some (record { status = 0; leaves = None }) ∷ []) ≡ None ∷ Some Boots ∷ None ∷ Some Resets ∷ None ∷ []
leaves_with_zero = refl

-- stand-ins if `booti` alone has one, with this status, and boots
booti : ℕ → Hardware
booti status = let none : Statuses = empty in hardware [] (insert none (codes "booti") (record { status = status; leaves = Some Boots }))

boot_ends : follow_of Strict (booti 0) (codes "booti" ∷ codes "0" ∷ []) ≡ End (Some (record { leaving = Boots; words = codes "booti" ∷ codes "0" ∷ [] }))
unfolding booti builtin_of
boot_ends = simp (get-insert {X = Role} nat_list_cmp_total)

failed_boot_goes_on : follow_of Strict (booti 1) (codes "booti" ∷ []) ≡ Next
unfolding booti builtin_of
failed_boot_goes_on = simp (get-insert {X = Role} nat_list_cmp_total)

-- a name without a stand-in changes nothing
told : with_leaving Boots (insert (let none : Statuses = empty in none) (codes "x") (record { status = 3; leaves = None })) (codes "y") ≡ insert (let none : Statuses = empty in none) (codes "x") (record { status = 3; leaves = None })
told = simp (get-insert {X = Role} nat_list_cmp_total, get-empty)

-- a board: a card in slot 1 with two partitions
exactly : List ℕ → PatternWord
exactly text = record { text = text; begins = false }

opened : List ℕ → PatternWord
opened text = record { text = text; begins = true }

rule : List PatternWord → Reply → Rule
rule pattern reply = record { pattern = pattern; whole = false; reply = reply }

card : List Rule
card =
    rule (map exactly (codes "mmc" ∷ codes "dev" ∷ codes "0" ∷ [])) (Status 1 None)
    ∷ rule (map exactly (codes "part" ∷ codes "list" ∷ codes "mmc" ∷ codes "1" ∷ []) ++ opened (codes "-boot") ∷ opened [] ∷ []) (Text (codes "setenv ${5} 2"))
    ∷ rule (map exactly (codes "mmc" ∷ [])) (Status 0 None)
    ∷ rule (map exactly (codes "booti" ∷ [])) (Status 0 (Some Boots))
    ∷ []

first_rule : ruled card (codes "mmc" ∷ codes "dev" ∷ codes "0" ∷ []) ≡ Some (Status 1 None)
unfolding card rule exactly opened
first_rule = refl

further_words : ruled card (codes "mmc" ∷ codes "dev" ∷ codes "1" ∷ []) ≡ Some (Status 0 None)
unfolding card rule exactly opened
further_words = refl

text_answer : ruled card (codes "part" ∷ codes "list" ∷ codes "mmc" ∷ codes "1" ∷ codes "-bootable" ∷ codes "p" ∷ []) ≡ Some (Text (codes "setenv ${5} 2"))
unfolding card rule exactly opened
text_answer = refl

-- a pattern doesn't fit a call with fewer words
fewer_words : ruled card (codes "part" ∷ codes "list" ∷ codes "mmc" ∷ codes "1" ∷ codes "-bootable" ∷ []) ≡ None
unfolding card rule exactly opened
fewer_words = refl

text_follows : (stubs : Statuses) → follow_of Strict (hardware card stubs) (codes "part" ∷ codes "list" ∷ codes "mmc" ∷ codes "1" ∷ codes "-bootable" ∷ codes "p" ∷ []) ≡ Answers (codes "part" ∷ codes "list" ∷ codes "mmc" ∷ codes "1" ∷ codes "-bootable" ∷ codes "p" ∷ []) (codes "setenv ${5} 2")
unfolding card rule exactly opened builtin_of
text_follows stubs = refl

text_prints : (stubs : Statuses) (held : Held) → done_of Strict (hardware card stubs) (codes "part" ∷ codes "list" ∷ codes "mmc" ∷ codes "1" ∷ codes "-bootable" ∷ codes "p" ∷ []) 7 held ≡ (answer 7 (codes "+ part list mmc 1 -bootable p\n"), held)
unfolding card rule exactly opened builtin_of
text_prints stubs held = refl

rule_boots : (stubs : Statuses) → follow_of Strict (hardware card stubs) (codes "booti" ∷ codes "0" ∷ []) ≡ End (Some (record { leaving = Boots; words = codes "booti" ∷ codes "0" ∷ [] }))
unfolding card rule exactly opened builtin_of
rule_boots stubs = refl

-- what no rule fits is asked of the stand-ins
after_the_rules : answer_to (hardware card (insert (let none : Statuses = empty in none) (codes "x") (record { status = 3; leaves = None }))) (codes "x") (codes "x" ∷ []) ≡ Some (Status 3 None)
unfolding card rule exactly opened
after_the_rules = simp (get-insert {X = Role} nat_list_cmp_total)

-- Names of commands on a board without stand-ins: the only one that begins so, up to a `.`.
beginning : (stubs : Statuses) → entries stubs ≡ [] → get stubs (codes "par") ≡ None → name_by Board (hardware card stubs) (codes "par") ≡ codes "part"
unfolding card rule exactly opened builtin_of with_name
beginning stubs none absent = simp (none, absent)

width : (stubs : Statuses) → get stubs (codes "mmc.b") ≡ None → name_by Board (hardware card stubs) (codes "mmc.b") ≡ codes "mmc"
unfolding card rule exactly opened builtin_of with_name
width stubs absent = simp absent

-- two rules of one name
beginning_of_one : (stubs : Statuses) → entries stubs ≡ [] → get stubs (codes "mm") ≡ None → name_by Board (hardware card stubs) (codes "mm") ≡ codes "mmc"
unfolding card rule exactly opened builtin_of with_name
beginning_of_one stubs none absent = simp (none, absent)

-- setenv and setexpr
beginning_of_two : (stubs : Statuses) → entries stubs ≡ [] → get stubs (codes "set") ≡ None → name_by Board (hardware card stubs) (codes "set") ≡ codes "set"
unfolding card rule exactly opened builtin_of with_name
beginning_of_two stubs none absent = simp (none, absent)

strict_name : (stubs : Statuses) → name_by Strict (hardware card stubs) (codes "mm") ≡ codes "mm"
strict_name stubs = refl

-- the words after `env`
board_env : List (List ℕ) → Command
board_env words = let none : Statuses = empty in command_in Board (hardware [] none) (codes "env" ∷ words)

env_beginning : board_env (codes "exi" ∷ codes "n" ∷ []) ≡ Exists (codes "n")
unfolding board_env builtin_of
env_beginning = refl

env_width : board_env (codes "delete.x" ∷ codes "n" ∷ []) ≡ Delete false (codes "n" ∷ [])
unfolding board_env builtin_of
env_width = refl

env_beginning_of_two : board_env (codes "ex" ∷ codes "n" ∷ []) ≡ WrongUse (codes "env")
unfolding board_env builtin_of
env_beginning_of_two = refl

-- the files of a board
disk : List Rule
disk = rule (map exactly (codes "test" ∷ codes "-e" ∷ codes "mmc" ∷ codes "1:2" ∷ []) ++ opened (codes "/boot") ∷ []) (Status 0 None) ∷ []

file_there : (stubs : Statuses) (held : Held) → done_of Board (hardware disk stubs) (codes "test" ∷ codes "-e" ∷ codes "mmc" ∷ codes "1:2" ∷ codes "/boot/boot.scr" ∷ []) 7 held ≡ (answer 0 [], held)
unfolding disk rule exactly opened builtin_of
file_there stubs held = refl

no_file_there : (stubs : Statuses) (held : Held) → get stubs (codes "test -e") ≡ None → done_of Board (hardware disk stubs) (codes "test" ∷ codes "-e" ∷ codes "mmc" ∷ codes "0" ∷ codes "/boot/boot.scr" ∷ []) 7 held ≡ (answer 1 [], held)
unfolding disk rule exactly opened builtin_of
no_file_there stubs held absent = simp absent

-- forms of builtins that have no meaning here, which rules may answer
forms : List Rule
forms =
    rule (map exactly (codes "env" ∷ codes "import" ∷ [])) (Text (codes "x=a"))
    ∷ rule (map exactly (codes "setexpr" ∷ codes "s" ∷ codes "gsub" ∷ [])) (Status 1 None)
    ∷ rule (map exactly (codes "setexpr" ∷ codes "n" ∷ [])) (Status 0 None)
    ∷ []

asked_env : (stubs : Statuses) → follow_of Strict (hardware forms stubs) (codes "env" ∷ codes "import" ∷ codes "-t" ∷ []) ≡ Answers (codes "env" ∷ codes "import" ∷ codes "-t" ∷ []) (codes "x=a")
unfolding forms rule exactly builtin_of
asked_env stubs = refl

asked_setexpr : (stubs : Statuses) (held : Held) → done_of Strict (hardware forms stubs) (codes "setexpr" ∷ codes "s" ∷ codes "gsub" ∷ codes "a" ∷ codes "b" ∷ []) 7 held ≡ (answer 1 (codes "+ setexpr s gsub a b\n"), held)
unfolding forms rule exactly builtin_of
asked_setexpr stubs held = refl

-- what no rule answers
unanswered : (stubs : Statuses) → map (command_in Strict (hardware forms stubs)) ((codes "env" ∷ codes "export" ∷ []) ∷ (codes "setexpr" ∷ codes "s" ∷ codes "sub" ∷ []) ∷ []) ≡ WrongUse (codes "env") ∷ WrongUse (codes "setexpr") ∷ []
unfolding forms rule exactly builtin_of
unanswered stubs = refl

-- forms that have a meaning aren't asked
calculated_here : (stubs : Statuses) → command_in Strict (hardware forms stubs) (codes "setexpr" ∷ codes "n" ∷ codes "1" ∷ []) ≡ Calculate (codes "setexpr") (codes "n" ∷ codes "1" ∷ [])
unfolding forms rule exactly builtin_of
calculated_here stubs = refl

-- The words of a call as local variables: those of an earlier one are gone, other local variables stay.
own_words : (locals : Environment) → get (with_words locals (codes "load" ∷ codes "mmc" ∷ [])) (codes "1") ≡ Some (codes "mmc")
unfolding digits
own_words locals = simp (get-insert {X = List ℕ} nat_list_cmp_total)

stale_words : (locals : Environment) → get (with_words (insert locals (codes "5") (codes "p")) (codes "load" ∷ codes "mmc" ∷ [])) (codes "5") ≡ None
unfolding digits
stale_words locals = simp (get-insert {X = List ℕ} nat_list_cmp_total, get-unnumbered)

other_locals : (locals : Environment) → get (with_words (insert locals (codes "p5") (codes "2")) (codes "load" ∷ [])) (codes "p5") ≡ Some (codes "2")
unfolding digits
other_locals locals = simp (get-insert {X = List ℕ} nat_list_cmp_total, get-unnumbered)
