-- Commands with words that they can't have, or that say something else than is meant (docs/check.md).
use Rattle.std.specs.Prelude.{ℕ, ◌==◌, ◌&&◌, ◌||◌, not, Bool, true, false, List, [], ◌∷◌, codes, length, Option, Some, None, is_none, if◌then◌else◌}
use Rattle.std.specs.Char.{is_ascii_alphabetic}
use Rattle.std.specs.List.{list_any}
use Rattle.hush_words.specs.Words.{Atom}
use Rattle.hush_commands.specs.Builtins.{builtin_of}
use Rattle.hush_commands.specs.declared.shell.Shell.{Shell}
use Rattle.fw_check.specs.Called.{is_after_env}
use Rattle.fw_check.specs.Foreign.{plain_of}
use Rattle.fw_check.specs.Knowing.{Known, is_defined}
use Rattle.fw_check.specs.Literals.{Front, front_of, is_called, is_word_of, literal_of}
use Rattle.fw_check.specs.Naming.{is_calculation, is_exit, is_run, is_test, without_force}
use Rattle.fw_check.specs.declared.misuse.Misuse.{Misuse}
use Rattle.fw_check.specs.declared.misuse.Misuse.TheVariants as misuse

-- the first of these words is this text
abbrev pub begin_with : List ℕ → List (List Atom) → Bool
begin_with text [] = false
begin_with text (word ∷ words) = is_called text (literal_of word)

-- what no name has: a space or a `=`
abbrev pub ends_name : ℕ → Bool
ends_name b = b == 32 || b == 61

abbrev pub is_nothing : Front → Bool
is_nothing front = front.whole && length front.bytes == 0

-- no name, an empty one, or such a byte in it before its first substitution, or a `=` behind it
abbrev pub is_name_wrong : List (List Atom) → Bool
is_name_wrong [] = true
is_name_wrong (word ∷ words) = list_any ends_name (front_of word).bytes || is_nothing (front_of word) || begin_with (codes "=") words

-- what `setenv` has no use for
abbrev pub is_set_wrong : List (List Atom) → Bool
is_set_wrong words = is_name_wrong (without_force words)

abbrev pub is_sum_sign : ℕ → Bool
is_sum_sign b = b == 43 || b == 45

-- the forms of `setexpr` that work on texts
abbrev pub is_text_form : Option (List ℕ) → Bool
is_text_form None = false
is_text_form (Some word) = is_word_of (codes "sub" ∷ codes "gsub" ∷ codes "fmt" ∷ []) word

-- no words, or an operator and a second value
abbrev pub may_follow : List (List Atom) → Bool
may_follow [] = true
may_follow (a ∷ []) = false
may_follow (a ∷ b ∷ []) = true
may_follow (a ∷ b ∷ c ∷ words) = false

abbrev pub is_value_wrong : List (List Atom) → Bool
is_value_wrong [] = true
is_value_wrong (value ∷ words) = not (is_text_form (literal_of value)) && (list_any is_sum_sign (plain_of value) || not (may_follow words))

-- `setexpr` with other than two or four words, or with a sum in its second one
abbrev pub is_calculated_wrong : List (List Atom) → Bool
is_calculated_wrong [] = true
is_calculated_wrong (name ∷ words) = is_value_wrong words

-- the operators of `setexpr`
abbrev pub operators : List (List ℕ)
operators = codes "+" ∷ codes "-" ∷ codes "*" ∷ codes "/" ∷ codes "%" ∷ codes "&" ∷ codes "|" ∷ codes "^" ∷ []

abbrev pub is_no_operator : Option (List ℕ) → Bool
is_no_operator None = false
is_no_operator (Some word) = not (is_word_of operators word)

abbrev pub begin_wrong : List (List Atom) → Bool
begin_wrong [] = false
begin_wrong (operator ∷ words) = is_no_operator (literal_of operator)

-- behind a value that is no form of it
abbrev pub is_operated_wrong : List (List Atom) → Bool
is_operated_wrong [] = false
is_operated_wrong (name ∷ []) = false
is_operated_wrong (name ∷ value ∷ words) = not (is_text_form (literal_of value)) && begin_wrong words

-- ---- a word of `test` that counts as a number

abbrev pub comparisons_of_numbers : List (List ℕ)
comparisons_of_numbers = codes "-eq" ∷ codes "-ne" ∷ codes "-lt" ∷ codes "-le" ∷ codes "-gt" ∷ codes "-ge" ∷ []

abbrev pub compares_numbers : Option (List ℕ) → Bool
compares_numbers None = false
compares_numbers (Some word) = is_word_of comparisons_of_numbers word

-- a word that begins with a letter counts 0
abbrev pub begins_with_letter : List ℕ → Bool
begins_with_letter [] = false
begins_with_letter (b ∷ bs) = is_ascii_alphabetic b

abbrev pub is_no_number : Option (List ℕ) → Bool
is_no_number None = false
is_no_number (Some word) = begins_with_letter word

-- two words, one behind the other
abbrev pub is_odd : Option (List ℕ) → Option (List ℕ) → Bool
is_odd first second = compares_numbers first && is_no_number second || is_no_number first && compares_numbers second

abbrev pub has_odd : (before : Option (List ℕ)) → List (List Atom) → Bool
has_odd before [] = false
has_odd before (word ∷ words) = is_odd before (literal_of word) || has_odd (literal_of word) words

-- ---- what may stand behind `env`, and a `run` inside the arguments of another command

-- the commands of U-Boot's `env`, whether a dry run has them or not
abbrev pub subcommands : List (List ℕ)
subcommands =
    codes "ask" ∷ codes "callbacks" ∷ codes "default" ∷ codes "delete" ∷ codes "edit" ∷ codes "erase" ∷ codes "exists" ∷ codes "export"
    ∷ codes "flags" ∷ codes "grep" ∷ codes "import" ∷ codes "indirect" ∷ codes "info" ∷ codes "load" ∷ codes "print" ∷ codes "run"
    ∷ codes "save" ∷ codes "select" ∷ codes "set" ∷ []

abbrev pub is_no_subcommand : Shell → Option (List ℕ) → Bool
is_no_subcommand shell None = false
is_no_subcommand shell (Some word) = not (list_any (λ name. is_after_env shell 1 name (Some word)) subcommands)

abbrev pub is_env_wrong : Shell → List (List Atom) → Bool
is_env_wrong shell [] = true
is_env_wrong shell (word ∷ words) = is_no_subcommand shell (literal_of word)

abbrev pub is_empty : List (List Atom) → Bool
is_empty [] = true
is_empty (word ∷ words) = false

abbrev pub is_one : List (List Atom) → Bool
is_one [] = false
is_one (word ∷ words) = is_empty words

-- what the command that a word stands for has no use for, if a run has that command
abbrev pub is_subcommand_wrong : Shell → Option (List ℕ) → List (List Atom) → Bool
is_subcommand_wrong shell word words =
    if is_after_env shell 2 (codes "set") word then is_set_wrong words
    else if is_after_env shell 2 (codes "save") word then not (is_empty words)
    else if is_after_env shell 1 (codes "run") word then is_empty words
    else if is_after_env shell 3 (codes "delete") word then is_empty (without_force words)
    else is_after_env shell 3 (codes "exists") word && not (is_one words)

abbrev pub is_operand_wrong : Shell → List (List Atom) → Bool
is_operand_wrong shell [] = false
is_operand_wrong shell (word ∷ words) = is_subcommand_wrong shell (literal_of word) words

-- `run`, and the name of a variable behind it
abbrev pub is_lost_run : Option Known → Option (List ℕ) → Option (List ℕ) → Bool
is_lost_run known first None = false
is_lost_run known first (Some name) = is_called (codes "run") first && is_defined known name

abbrev pub has_lost_run : Option Known → (before : Option (List ℕ)) → List (List Atom) → Bool
has_lost_run known before [] = false
has_lost_run known before (word ∷ words) =
    is_lost_run known before (literal_of word) || has_lost_run known (literal_of word) words

abbrev pub is_no_builtin : Option (List ℕ) → Bool
is_no_builtin None = false
is_no_builtin (Some name) = is_none (builtin_of name)

-- ---- a command

abbrev pub misuse_if : Bool → Misuse → Option Misuse
misuse_if wrong misuse = if wrong then Some misuse else None

abbrev pub calculated : (wrong : Bool) → List (List Atom) → Option Misuse
calculated true words = Some misuse.Calculation
calculated false words = misuse_if (is_operated_wrong words) misuse.Operator

abbrev pub of_env : (wrong : Bool) → Shell → List (List Atom) → Option Misuse
of_env true shell words = Some misuse.Environment
of_env false shell words = misuse_if (is_operand_wrong shell words) misuse.Operands

-- by the name that the shell finds, and the arguments
abbrev pub misuse_of : Option Known → Shell → (called : Option (List ℕ)) → List (List Atom) → Option Misuse
misuse_of known shell called words =
    if is_run called then misuse_if (is_empty words) misuse.Nothing
    else if is_called (codes "setenv") called then misuse_if (is_set_wrong words) misuse.Setting
    else if is_calculation called then calculated (is_calculated_wrong words) words
    else if is_test called then misuse_if (has_odd None words) misuse.Number
    else if is_called (codes "env") called then of_env (is_env_wrong shell words) shell words
    else if is_called (codes "saveenv") called then misuse_if (not (is_empty words)) misuse.Saving
    else if is_exit called then misuse_if (not (is_empty words || is_one words)) misuse.Ending
    else misuse_if (is_no_builtin called && has_lost_run known None words) misuse.Joined

abbrev pub misuse_sentence : Misuse → List ℕ
misuse_sentence misuse.Nothing = codes "`run` needs the name of a variable"
misuse_sentence misuse.Setting = codes "`setenv` is written `setenv NAME VALUE`"
misuse_sentence misuse.Calculation = codes "`setexpr` is written `setexpr NAME VALUE` or `setexpr NAME VALUE OPERATOR VALUE`"
misuse_sentence misuse.Number = codes "`test` compares a word as a number, which is 0"
misuse_sentence misuse.Environment = codes "`env` needs the name of one of its commands"
misuse_sentence misuse.Operator = codes "`setexpr` has no operators but + - * / % & | ^"
misuse_sentence misuse.Operands = codes "these are not the words of this `env` command"
misuse_sentence misuse.Saving = codes "`saveenv` takes no words"
misuse_sentence misuse.Ending = codes "`exit` takes one word at most"
misuse_sentence misuse.Joined = codes "a `;` is missing before `run`"
misuse_sentence misuse.NoExpression = codes "the words of `test` are no expression"
