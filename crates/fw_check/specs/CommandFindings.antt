-- What is found in a simple command (docs/check.md).
use Rattle.std.specs.Prelude.{ℕ, ◌==◌, ◌&&◌, ◌||◌, drop, Bool, List, [], ◌∷◌, ◌++◌, length, fold, codes, Option, Some, None, is_some, if◌then◌else◌}
use Rattle.std.specs.List.{flat_map, fold}
use Rattle.hush_words.specs.Parts.{Written, word_atoms}
use Rattle.hush_words.specs.Words.{Atom}
use Rattle.hush_words.specs.declared.parts.Word.{Word}
use Rattle.hush_syntax.specs.Trees.{words_in}
use Rattle.hush_commands.specs.declared.shell.Shell.{Shell}
use Rattle.hush_commands.specs.declared.shell.Shell.TheVariants.{Strict, Board}
use Rattle.hush_commands.specs.Hardware.{Hardware}
use Rattle.finding_kinds.specs.declared.kinds.FindingKind.TheVariants as kind
use Rattle.fw_check.specs.Called.{Given, is_after_env}
use Rattle.fw_check.specs.Commands.{begin_in_parentheses, begin_with_comparison, command_fault, command_sentence, kind_of}
use Rattle.fw_check.specs.Foreign.{foreign_of, foreign_sentence, plain_of}
use Rattle.fw_check.specs.Literals.{Front, front_of, is_called, literal_of}
use Rattle.fw_check.specs.Knowing.{Known, field_of, is_undefined}
use Rattle.fw_check.specs.Misuse.{misuse_sentence}
use Rattle.fw_check.specs.Naming.{is_test}
use Rattle.fw_check.specs.Operators.{ATerm, Expected, after_word, is_broken, wrong_in}
use Rattle.fw_check.specs.Targets.{Target}
use Rattle.fw_check.specs.declared.commands.CommandFault.{CommandFault}
use Rattle.fw_check.specs.declared.foreign.Foreign.{Foreign}
use Rattle.fw_check.specs.declared.misuse.Misuse.{Misuse}
use Rattle.fw_check.specs.declared.misuse.Misuse.TheVariants as misuse
use Rattle.fw_check.specs.ReportLines.{Finding, found_at}

abbrev pub fault_findings : ℕ → (name : List ℕ) → Option CommandFault → List Finding
fault_findings count name None = []
fault_findings count name (Some fault) = found_at count (kind_of fault) (command_sentence fault name) ∷ []

-- a value in the place of a command, and a comparison behind it
abbrev pub lost_sentence : List ℕ
lost_sentence = codes "a comparison needs `test` before it"

abbrev pub lost_findings : (compares : Bool) → ℕ → List Finding
lost_findings compares count = if compares then found_at count kind.OtherShell lost_sentence ∷ [] else []

abbrev pub called_findings : Shell → Option Hardware → (opens compares : Bool) → ℕ → Option (List ℕ) → List Finding
called_findings shell h opens compares count None = lost_findings compares count
called_findings shell h opens compares count (Some name) = fault_findings count name (command_fault shell h opens name)

-- the command that a word calls, of which all is known
abbrev pub name_unless : Option Known → (compares : Bool) → List Atom → Option (List ℕ) → Option (List ℕ)
name_unless known compares atoms (Some bytes) = Some bytes
name_unless known compares atoms None = if compares then None else field_of known atoms

abbrev pub known_name : Option Known → (compares : Bool) → List Atom → Option (List ℕ)
known_name known compares atoms = name_unless known compares atoms (literal_of atoms)

abbrev pub command_findings : Option Known → Given → Written → List Word → List Finding
command_findings known given text [] = []
command_findings known given text (word ∷ words) =
    called_findings given.shell given.hardware (begin_in_parentheses (words_in text words)) (begin_with_comparison (words_in text words)) word.start
    (known_name known (begin_with_comparison (words_in text words)) (word_atoms text word))

-- ---- words that are written for another shell, and wrong use

abbrev pub foreign_if : ℕ → Option Foreign → List Finding
foreign_if count None = []
foreign_if count (Some foreign) = found_at count kind.OtherShell (foreign_sentence foreign) ∷ []

abbrev pub foreign_findings : Written → Word → List Finding
foreign_findings text word = foreign_if word.start (foreign_of (plain_of (word_atoms text word)))

-- those in the arguments of a command; what `echo` prints may be any, and `test` compares with `>`
abbrev pub is_free : Option (List ℕ) → Bool
is_free called = is_called (codes "echo") called || is_test called

abbrev pub arguments_foreign : (called : Option (List ℕ)) → Written → List Word → List Finding
arguments_foreign called text words = if is_free called then [] else flat_map (foreign_findings text) words

abbrev pub misuse_findings : ℕ → Option Misuse → List Finding
misuse_findings count None = []
misuse_findings count (Some misuse) = found_at count kind.WrongUse (misuse_sentence misuse) ∷ []

-- an `exit` ends nothing on a board with a U-Boot before 2025
abbrev pub exit_sentence : List ℕ
exit_sentence = codes "U-Boot before 2025 ignores `exit` and goes on"

abbrev pub exit_if : Bool → ℕ → List Finding
exit_if exits count = if exits then found_at count kind.Exit exit_sentence ∷ [] else []

-- more words than a U-Boot before 2025 takes: it is told at the first of them
abbrev pub many_sentence : List ℕ
many_sentence = codes "U-Boot before 2025 takes 16 words of a command at most"

abbrev pub many_from : List Word → List Finding
many_from [] = []
many_from (word ∷ words) = found_at word.start kind.ManyWords many_sentence ∷ []

abbrev pub many_findings : List Word → List Finding
many_findings words = many_from (drop 16 words)

-- the strict shell takes the words as false
abbrev pub operator_end : Shell → List ℕ
operator_end Strict = codes "` here, and is false"
operator_end Board = codes "` here"

abbrev pub operator_sentence : Shell → List ℕ → List ℕ
operator_sentence shell name = codes "`test` has no operator `" ++ name ++ operator_end shell

-- no operator, or no expression for another reason, of a `test` at this place
abbrev pub wrong_findings : Shell → ℕ → (broken : Bool) → Option Target → List Finding
wrong_findings shell count broken None = if broken then found_at count kind.WrongUse (misuse_sentence misuse.NoExpression) ∷ [] else []
wrong_findings shell count broken (Some t) = found_at t.count kind.TestOperator (operator_sentence shell t.name) ∷ []

abbrev pub tested_findings : Shell → ℕ → Expected → List Finding
tested_findings shell count expected = wrong_findings shell count (is_broken expected) (wrong_in expected)

-- each word of a test counts as one field, whatever its value
abbrev pub after_field : Shell → Written → Expected → Word → Expected
after_field shell text expected word = after_word shell expected word.start (literal_of (word_atoms text word))

abbrev pub test_findings : Shell → ℕ → Written → List Word → List Finding
test_findings shell count text words = tested_findings shell count (fold (after_field shell text) ATerm words)

abbrev pub operator_findings : Shell → (tests : Bool) → ℕ → Written → List Word → List Finding
operator_findings shell tests count text words = if tests then test_findings shell count text words else []

abbrev pub undefined_sentence : List ℕ → List ℕ
undefined_sentence name = codes "`run " ++ name ++ codes "` names a variable that is not defined"

abbrev pub named_findings : Option Known → ℕ → List ℕ → List Finding
named_findings known count name =
    if is_undefined known name then found_at count kind.RunUndefined (undefined_sentence name) ∷ [] else []

abbrev pub unknown_sentence : List ℕ
unknown_sentence = codes "what this runs is not known, so it is not followed"

-- a name, or a beginning of names; what begins with a substitution may be any name
abbrev pub begun_findings : Option Known → ℕ → List ℕ → List Finding
begun_findings known count beginning =
    if is_some known && length beginning == 0 then found_at count kind.RunUnknown unknown_sentence ∷ [] else []

abbrev pub target_findings : Option Known → ℕ → Front → List Finding
target_findings known count front =
    if front.whole then named_findings known count front.bytes else begun_findings known count front.bytes

-- an argument of which all is known names its first field; if that isn't there, it is told, else what it begins with
abbrev pub constant_findings : Option Known → ℕ → Front → Option (List ℕ) → List Finding
constant_findings known count front None = target_findings known count front
constant_findings known count front (Some name) =
    if is_undefined known name then named_findings known count name else target_findings known count front

abbrev pub unless_literal : Option Known → List Atom → Option (List ℕ) → Option (List ℕ)
unless_literal known atoms (Some bytes) = None
unless_literal known atoms None = field_of known atoms

abbrev pub field_in_substitutions : Option Known → List Atom → Option (List ℕ)
field_in_substitutions known atoms = unless_literal known atoms (literal_of atoms)

abbrev pub argument_findings : Option Known → Written → Word → List Finding
argument_findings known text word =
    constant_findings known word.start (front_of (word_atoms text word)) (field_in_substitutions known (word_atoms text word))

-- what is found in the arguments of `run`
abbrev pub run_findings : Option Known → (runs : Bool) → Written → List Word → List Finding
run_findings known runs text words = if runs then flat_map (argument_findings known text) words else []

-- ---- empty values

-- the words behind an option, if it is there
abbrev pub after_force : Written → List Word → List Word
after_force text [] = []
after_force text (word ∷ words) = if is_called (codes "-f") (literal_of (word_atoms text word)) then words else word ∷ words

abbrev pub after_set : Shell → Written → List Word → List Word
after_set shell text [] = []
after_set shell text (word ∷ words) = if is_after_env shell 2 (codes "set") (literal_of (word_atoms text word)) then after_force text words else []

-- the name and the value that a command of this name sets: `setenv`, or `env set`
abbrev pub set_words : Shell → (called : Option (List ℕ)) → Written → List Word → List Word
set_words shell called text words =
    if is_called (codes "setenv") called then after_force text words
    else if is_called (codes "env") called then after_set shell text words
    else []

abbrev pub empty_sentence : List ℕ
empty_sentence = codes "a board keeps the variable, with an empty value"

abbrev pub value_findings : Written → Word → List Finding
value_findings text value = if is_called [] (literal_of (word_atoms text value)) then found_at value.start kind.EmptyValue empty_sentence ∷ [] else []

-- of one value alone: several have spaces between them
abbrev pub only_value : List Word → Option Word
only_value [] = None
only_value (name ∷ []) = None
only_value (name ∷ value ∷ []) = Some value
only_value (name ∷ value ∷ more ∷ words) = None

abbrev pub value_if : Written → Option Word → List Finding
value_if text None = []
value_if text (Some value) = value_findings text value

abbrev pub empty_findings : Shell → (called : Option (List ℕ)) → Written → List Word → List Finding
empty_findings shell called text words = value_if text (only_value (set_words shell called text words))
