-- Which command the fields of a simple command are, with its operands (docs/runs.md, "Commands").
use Rattle.std.specs.Prelude.{ℕ, Bool, true, false, not, if◌then◌else◌, List, [], ◌∷◌, codes, drop, Option, Some, None, Ok, Err}
use Rattle.hush_calc.specs.Fields.{split_option}
use Rattle.hush_calc.specs.Setexpr.{Answer, setexpr_of}
use Rattle.hush_calc.specs.declared.calculation.SetexprFault.TheVariants as fault
use Rattle.hush_commands.specs.declared.builtins.Builtin.{Builtin}
use Rattle.hush_commands.specs.declared.builtins.Builtin.TheVariants as builtin
use Rattle.hush_commands.specs.declared.command.Command.{Command}
use Rattle.hush_commands.specs.declared.command.Command.TheVariants as command
use Rattle.hush_commands.specs.Builtins.{builtin_of, name_of}
use Rattle.hush_commands.specs.declared.shell.Shell.{Shell}
use Rattle.hush_commands.specs.declared.board_rules.Rule.{Rule}
use Rattle.hush_commands.specs.declared.board_rules.Reply.{Reply}
use Rattle.hush_commands.specs.Hardware.{Hardware, ruled}
use Rattle.hush_commands.specs.CommandNames.{lacks, name_by, stands_for}
use Rattle.hush_commands.specs.Shells.{exit_word}

-- an option, if it is the first word, and the words after it
abbrev pub Optioned : Type 0
Optioned = Bool × List (List ℕ)

-- `echo [-n] words`: a newline unless `-n` is the first word
abbrev pub echo_with : Optioned → Command
echo_with (is_bare, words) = command.Echo (not is_bare) words

abbrev pub echo_command : List (List ℕ) → Command
echo_command words = echo_with (split_option (codes "-n") words)

-- `setenv [-f] name words`
abbrev pub set_with : (called : List ℕ) → Optioned → Command
set_with called (force, []) = command.WrongUse called
set_with called (force, name ∷ words) = command.Set force name words

abbrev pub set_command : (called : List ℕ) → List (List ℕ) → Command
set_command called words = set_with called (split_option (codes "-f") words)

-- `printenv [-a] names`
abbrev pub print_with : Optioned → Command
print_with (all, names) = command.Print all names

abbrev pub print_command : List (List ℕ) → Command
print_command words = print_with (split_option (codes "-a") words)

-- `saveenv` takes no words
abbrev pub save_command : (called : List ℕ) → List (List ℕ) → Command
save_command called [] = command.Save
save_command called (word ∷ words) = command.WrongUse called

-- `run names`: one at least
abbrev pub run_command : (called : List ℕ) → List (List ℕ) → Command
run_command called [] = command.WrongUse called
run_command called (name ∷ names) = command.Run (name ∷ names)

-- `env delete [-f] names`: one at least
abbrev pub delete_with : (called : List ℕ) → Optioned → Command
delete_with called (force, []) = command.WrongUse called
delete_with called (force, name ∷ names) = command.Delete force (name ∷ names)

abbrev pub delete_command : (called : List ℕ) → List (List ℕ) → Command
delete_command called words = delete_with called (split_option (codes "-f") words)

-- `env exists name`
abbrev pub exists_command : (called : List ℕ) → List (List ℕ) → Command
exists_command called [] = command.WrongUse called
exists_command called (name ∷ []) = command.Exists name
exists_command called (name ∷ more ∷ names) = command.WrongUse called

-- `exit [status]`
abbrev pub exit_with : (called : List ℕ) → Option ℕ → Command
exit_with called None = command.WrongUse called
exit_with called (Some status) = command.Exit (Some status)

abbrev pub exit_command : Shell → (called : List ℕ) → List (List ℕ) → Command
exit_command shell called [] = command.Exit None
exit_command shell called (word ∷ []) = exit_with called (exit_word shell word)
exit_command shell called (word ∷ more ∷ words) = command.WrongUse called

-- a form of a builtin that has no meaning here is a call, if a rule answers that
abbrev pub answered : Option Reply → (called : List ℕ) → (fields : List (List ℕ)) → Command
answered None called fields = command.WrongUse called
answered (Some reply) called fields = command.Other called fields

abbrev pub asked : List Rule → (called : List ℕ) → (fields : List (List ℕ)) → Command
asked rules called fields = answered (ruled rules (called ∷ drop 1 fields)) called fields

-- the commands of `env`, of which other words are none here
abbrev pub env_word : Shell → List Rule → (called : List ℕ) → (fields : List (List ℕ)) → (word : List ℕ) → List (List ℕ) → Command
env_word shell rules called fields word words =
    if stands_for shell 2 (codes "set") word then set_command called words
    else if stands_for shell 1 (codes "print") word then print_command words
    else if stands_for shell 2 (codes "save") word then save_command called words
    else if stands_for shell 1 (codes "run") word then run_command called words
    else if stands_for shell 3 (codes "delete") word then delete_command called words
    else if stands_for shell 3 (codes "exists") word then exists_command called words
    else asked rules called fields

abbrev pub env_command : Shell → List Rule → (called : List ℕ) → (fields words : List (List ℕ)) → Command
env_command shell rules called fields [] = asked rules called fields
env_command shell rules called fields (word ∷ words) = env_word shell rules called fields word words

-- a `setexpr` whose words are no calculation has no meaning here
abbrev pub is_wrong_use : Answer → Bool
is_wrong_use (Ok written) = false
is_wrong_use (Err fault.WrongUse) = true
is_wrong_use (Err fault.DivisionByZero) = false

abbrev pub calculate_command : List Rule → (called : List ℕ) → (fields words : List (List ℕ)) → Command
calculate_command rules called fields words = if is_wrong_use (setexpr_of words) then asked rules called fields else command.Calculate called words

abbrev pub builtin_command : Shell → List Rule → Builtin → (called : List ℕ) → (fields words : List (List ℕ)) → Command
builtin_command shell rules builtin.True called fields words = command.True
builtin_command shell rules builtin.False called fields words = command.False
builtin_command shell rules builtin.Echo called fields words = echo_command words
builtin_command shell rules builtin.SetEnv called fields words = set_command called words
builtin_command shell rules builtin.PrintEnv called fields words = print_command words
builtin_command shell rules builtin.SaveEnv called fields words = save_command called words
builtin_command shell rules builtin.Run called fields words = run_command called words
builtin_command shell rules builtin.Env called fields words = env_command shell rules called fields words
builtin_command shell rules builtin.Test called fields words = command.Test words
builtin_command shell rules builtin.SetExpr called fields words = calculate_command rules called fields words
builtin_command shell rules builtin.Exit called fields words = exit_command shell called words

-- builtins come first, unless the board lacks them
abbrev pub named_command : Shell → List Rule → Option Builtin → (name : List ℕ) → (fields words : List (List ℕ)) → Command
named_command shell rules (Some builtin) name fields words =
    if lacks rules (name_of builtin) then command.Other name fields else builtin_command shell rules builtin name fields words
named_command shell rules None name fields words = command.Other name fields

-- a command is called by the name that its first word stands for
abbrev pub command_in : Shell → Hardware → List (List ℕ) → Command
command_in shell h [] = command.Nothing
command_in shell h (word ∷ words) = let name = name_by shell h word in named_command shell h.rules (builtin_of name) name (word ∷ words) words
