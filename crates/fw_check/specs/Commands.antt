-- Names of commands that nothing carries out (docs/check.md).
use Rattle.std.specs.Prelude.{ℕ, ◌==◌, ◌&&◌, ◌||◌, Bool, false, List, [], ◌∷◌, ◌++◌, codes, map, Option, Some, None, is_none, not, if◌then◌else◌}
use Rattle.std.specs.List.{ends_with}
use Rattle.hush_words.specs.Words.{Atom}
use Rattle.hush_calc.specs.Test.{comparisons, spelling}
use Rattle.hush_commands.specs.Builtins.{builtin_of}
use Rattle.hush_commands.specs.CommandNames.{has_answer, names_command}
use Rattle.hush_commands.specs.Hardware.{Hardware}
use Rattle.hush_commands.specs.declared.shell.Shell.{Shell}
use Rattle.finding_kinds.specs.declared.kinds.FindingKind.{FindingKind}
use Rattle.finding_kinds.specs.declared.kinds.FindingKind.TheVariants as kind
use Rattle.fw_check.specs.Literals.{is_called, is_word_of, literal_of}
use Rattle.fw_check.specs.declared.commands.CommandFault.{CommandFault}
use Rattle.fw_check.specs.declared.commands.CommandFault.TheVariants as command

-- what other shells have, and this one doesn't
abbrev pub brackets : List (List ℕ)
brackets = codes "[" ∷ codes "[[" ∷ []

abbrev pub lacking_words : List (List ℕ)
lacking_words = codes "break" ∷ codes "continue" ∷ codes "return" ∷ codes "case" ∷ codes "function" ∷ []

-- `f()`, as the head of a function is written
abbrev pub ends_in_parentheses : List ℕ → Bool
ends_in_parentheses name = ends_with (λ a b. a == b) name (codes "()")

-- `f ()`, by the arguments
abbrev pub begin_in_parentheses : List (List Atom) → Bool
begin_in_parentheses [] = false
begin_in_parentheses (word ∷ words) = is_called (codes "()") (literal_of word)

-- the first of these words is an operator of `test` that compares, or `==`
abbrev pub is_comparing : Option (List ℕ) → Bool
is_comparing None = false
is_comparing (Some word) = is_word_of (codes "==" ∷ map spelling comparisons) word

abbrev pub begin_with_comparison : List (List Atom) → Bool
begin_with_comparison [] = false
begin_with_comparison (word ∷ words) = is_comparing (literal_of word)

-- `opens`: the arguments begin so
abbrev pub is_head : (opens : Bool) → List ℕ → Bool
is_head opens name = ends_in_parentheses name || (opens && is_none (builtin_of name))

abbrev pub lack_of : (opens : Bool) → List ℕ → Option CommandFault
lack_of opens name =
    if is_word_of brackets name then Some command.Bracket
    else if is_word_of lacking_words name then Some command.Word
    else if is_head opens name then Some command.Function
    else None

abbrev pub has_stand_in : Option Hardware → List ℕ → Bool
has_stand_in None name = false
has_stand_in (Some h) name = has_answer h name

-- which commands there are is known if there is some hardware; a shell looks the name up
abbrev pub is_unknown : Shell → Option Hardware → List ℕ → Bool
is_unknown shell None name = false
is_unknown shell (Some h) name = not (names_command shell h name)

abbrev pub or_unknown : (unknown : Bool) → Option CommandFault → Option CommandFault
or_unknown unknown None = if unknown then Some command.Unknown else None
or_unknown unknown (Some fault) = Some fault

-- what is wrong with a command of this name; a rule or a stand-in may carry out any name
abbrev pub command_fault : Shell → Option Hardware → (opens : Bool) → List ℕ → Option CommandFault
command_fault shell h opens name =
    if has_stand_in h name then None else or_unknown (is_unknown shell h name) (lack_of opens name)

abbrev pub command_sentence : CommandFault → List ℕ → List ℕ
command_sentence command.Bracket name = codes "this shell has no `" ++ name ++ codes "`: write `test`"
command_sentence command.Word name = codes "this shell has no `" ++ name ++ codes "`"
command_sentence command.Function name = codes "this shell has no functions"
command_sentence command.Unknown name = codes "no builtin and no stand-in is called `" ++ name ++ codes "`"

abbrev pub kind_of : CommandFault → FindingKind
kind_of command.Bracket = kind.OtherShell
kind_of command.Word = kind.OtherShell
kind_of command.Function = kind.OtherShell
kind_of command.Unknown = kind.UnknownCommand
