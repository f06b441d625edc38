-- What is found in a script (docs/check.md).
use Rattle.std.specs.Prelude.{ℕ, ◌==◌, ◌&&◌, ◌||◌, Bool, true, false, List, [], ◌∷◌, ◌++◌, length, codes, Option, Some, None, if◌then◌else◌}
use Rattle.std.specs.List.{flat_map, list_any, position_or_len}
use Rattle.memchr.specs.Find.{is_byte}
use Rattle.hush_words.specs.Parts.{Written, word_atoms}
use Rattle.hush_words.specs.Words.{Atom}
use Rattle.hush_words.specs.declared.parts.Word.{Word}
use Rattle.hush_syntax.specs.Trees.{words_in}
use Rattle.hush_commands.specs.declared.shell.Shell.{Shell}
use Rattle.hush_commands.specs.declared.shell.Shell.TheVariants.{Strict, Board}
use Rattle.finding_kinds.specs.declared.kinds.FindingKind.{FindingKind}
use Rattle.finding_kinds.specs.declared.kinds.FindingKind.TheVariants as kind
use Rattle.fw_check.specs.Called.{Given, called_by}
use Rattle.fw_check.specs.Origins.{Origin, is_stored}
use Rattle.fw_check.specs.Literals.{is_called, is_mark, is_shown, is_word_of, literal_of, substituted}
use Rattle.fw_check.specs.Knowing.{Known, is_defined, is_lacking, is_written, reread_names}
use Rattle.fw_check.specs.Misuse.{misuse_of}
use Rattle.fw_check.specs.Naming.{is_exit, is_run, is_test}
use Rattle.fw_check.specs.declared.items.Item.{Item}
use Rattle.fw_check.specs.declared.items.Item.TheVariants as item
use Rattle.fw_check.specs.declared.settings.Setting.{Setting}
use Rattle.fw_check.specs.ReportLines.{Finding, found_at}
use Rattle.fw_check.specs.CommandFindings.{arguments_foreign, command_findings, empty_findings, exit_if, foreign_findings, many_findings, misuse_findings, operator_findings, run_findings}

-- ---- carriage returns

-- the first such byte of a text
abbrev pub first_findings : (byte : ℕ) → FindingKind → (sentence text : List ℕ) → List Finding
first_findings byte k sentence text = if list_any (is_byte byte) text then found_at (position_or_len (is_byte byte) text) k sentence ∷ [] else []

abbrev pub return_findings : List ℕ → List Finding
return_findings text = first_findings 13 kind.CarriageReturn (codes "a carriage return stands in the script") text

-- ---- backslashes: a board drops them when it loads a variable, and not in the script of a file

abbrev pub stored_findings : Origin → List ℕ → List Finding
stored_findings origin text =
    if is_stored origin then first_findings 92 kind.Backslashes (codes "a board drops this backslash when it loads the variable") text
    else []

-- ---- statuses that shells leave in different ways

abbrev pub found_if : Bool → ℕ → FindingKind → (sentence : List ℕ) → List Finding
found_if found count k sentence = if found then found_at count k sentence ∷ [] else []

abbrev pub mixed_sentence : List ℕ
mixed_sentence = codes "a board skips the rest of a chain once a command of it is skipped"

abbrev pub branchless_sentence : List ℕ
branchless_sentence = codes "shells differ in the status of an `if` without `else`"

abbrev pub loop_sentence : List ℕ
loop_sentence = codes "shells differ in the status of a `while` or `until`"

abbrev pub stale_sentence : List ℕ
stale_sentence = codes "shells differ in the `$?` with which a text or a turn of `for` begins"

-- at the first command of the chain's part, the `if`, the loop, the text or the turn; `shows`: it has a `$?`
abbrev pub setting_findings : Setting → ℕ → (shows : Bool) → List Finding
setting_findings s count shows =
    found_if s.mixes count kind.AndOr mixed_sentence ++ found_if s.branchless count kind.IfStatus branchless_sentence
    ++ found_if s.loops count kind.LoopStatus loop_sentence ++ found_if (s.begins && shows) count kind.StaleStatus stale_sentence

abbrev pub shows_in : Written → Word → Bool
shows_in text word = list_any is_shown (word_atoms text word)

-- those of a simple command; one without words has no place
abbrev pub begun_by : Written → Setting → List Word → List Finding
begun_by text s [] = []
begun_by text s (word ∷ words) = setting_findings s word.start (list_any (shows_in text) (word ∷ words))

-- ---- substitutions

abbrev pub lacking_sentence : List ℕ → List ℕ
lacking_sentence name = codes "`${" ++ name ++ codes "}` names a variable that nothing defines"

abbrev pub name_findings : Option Known → ℕ → List ℕ → List Finding
name_findings known count name = if is_lacking known name then found_at count kind.UndefinedName (lacking_sentence name) ∷ [] else []

-- the same line is not repeated: there is no finding for a name that is the last one with a finding
abbrev pub next_findings : Option Known → ℕ → (last : Option (List ℕ)) → List ℕ → List Finding
next_findings known count last name = if is_called name last then [] else name_findings known count name

abbrev pub last_lacking : Option Known → (last : Option (List ℕ)) → List ℕ → Option (List ℕ)
last_lacking known last name = if is_lacking known name then Some name else last

abbrev pub names_findings : Option Known → ℕ → (last : Option (List ℕ)) → List (List ℕ) → List Finding
names_findings known count last [] = []
names_findings known count last (name ∷ names) =
    next_findings known count last name ++ names_findings known count (last_lacking known last name) names

abbrev pub word_findings : Option Known → Written → Word → List Finding
word_findings known text word = names_findings known word.start None (substituted (word_atoms text word))

-- a value that a board reads anew
abbrev pub reread_sentence : List ℕ → List ℕ
reread_sentence name = codes "a board reads quotes, backslashes, newlines and ` #` in the value of `" ++ name ++ codes "` anew"

abbrev pub reread_if : ℕ → List (List ℕ) → List Finding
reread_if count [] = []
reread_if count (name ∷ names) = found_at count kind.RereadValue (reread_sentence name) ∷ []

-- of several in a word the first one is told; `cut`: of a simple command
abbrev pub reread_findings : Option Known → (cut : Bool) → Written → Word → List Finding
reread_findings known cut text word = reread_if word.start (reread_names known cut (word_atoms text word))

-- ---- assignments and the heads of `for`

-- the strict shell refuses it; on a board the environment's value goes before the one that is assigned
abbrev pub refused_end : Shell → List ℕ
refused_end Strict = codes "` is an environment variable, so it can not be assigned"
refused_end Board = codes "` is an environment variable, which hides what is assigned"

abbrev pub refused_sentence : Shell → List ℕ → List ℕ
refused_sentence shell name = codes "`" ++ name ++ refused_end shell

-- the same once a script has set it
abbrev pub written_end : Shell → List ℕ
written_end Strict = codes "` in the environment, where it can not be assigned"
written_end Board = codes "` in the environment, which hides what is assigned"

abbrev pub written_sentence : Shell → List ℕ → List ℕ
written_sentence shell name = codes "a script sets `" ++ name ++ written_end shell

abbrev pub hidden_findings : Shell → Option Known → ℕ → List ℕ → List Finding
hidden_findings shell known count name =
    if is_defined known name then found_at count kind.HiddenAssignment (refused_sentence shell name) ∷ []
    else if is_written known name then found_at count kind.HiddenAssignment (written_sentence shell name) ∷ []
    else []

abbrev pub assigned_findings : Shell → Option Known → ℕ → Option (List ℕ) → List Finding
assigned_findings shell known count None = []
assigned_findings shell known count (Some name) = hidden_findings shell known count name

-- an assignment of nothing
abbrev pub unset_sentence : List ℕ
unset_sentence = codes "U-Boot before 2025 leaves the old value, if there is one"

abbrev pub unset_findings : ℕ → (value : Option (List ℕ)) → List Finding
unset_findings count value = if is_called [] value then found_at count kind.EmptyAssignment unset_sentence ∷ [] else []

-- a board cuts the words of a `for` at spaces and newlines, in quotes too
abbrev pub is_cut : ℕ → Bool
is_cut b = b == 32 || b == 10

-- one without bytes is none to it
abbrev pub is_literal_cut : List ℕ → Bool
is_literal_cut bytes = length bytes == 0 || list_any is_cut bytes

abbrev pub is_cut_in : List Atom → Option (List ℕ) → Bool
is_cut_in atoms None = list_any is_mark atoms
is_cut_in atoms (Some bytes) = is_literal_cut bytes

abbrev pub cut_sentence : List ℕ
cut_sentence = codes "a board cuts this word of a `for` at its blanks, in quotes too"

abbrev pub cut_findings : Written → Word → List Finding
cut_findings text word = if is_cut_in (word_atoms text word) (literal_of (word_atoms text word)) then found_at word.start kind.QuotedFor cut_sentence ∷ [] else []

-- a board refuses a `for` with one of these, in quotes too
abbrev pub reserved_words : List (List ℕ)
reserved_words =
    codes "if" ∷ codes "then" ∷ codes "elif" ∷ codes "else" ∷ codes "fi" ∷ codes "for" ∷ codes "while" ∷ codes "until" ∷ codes "do"
    ∷ codes "done" ∷ codes "in" ∷ []

abbrev pub is_reserved : Option (List ℕ) → Bool
is_reserved None = false
is_reserved (Some word) = is_word_of reserved_words word

abbrev pub reserved_sentence : List ℕ
reserved_sentence = codes "a board refuses a reserved word in the list of a `for`"

abbrev pub reserved_findings : Written → Word → List Finding
reserved_findings text word = if is_reserved (literal_of (word_atoms text word)) then found_at word.start kind.ReservedWordsOfFor reserved_sentence ∷ [] else []

-- ---- a whole script

-- by the name of the command and its arguments
abbrev pub use_findings : Option Known → Given → (called : Option (List ℕ)) → Written → Word → List Word → List Finding
use_findings known given called text word words =
    misuse_findings word.start (misuse_of known given.shell called (words_in text words))
    ++ operator_findings given.shell (is_test called) word.start text words ++ run_findings known (is_run called) text words
    ++ empty_findings given.shell called text words

-- what is found in all words
abbrev pub words_findings : Option Known → Written → List Word → List Finding
words_findings known text words = flat_map (word_findings known text) words ++ flat_map (reread_findings known true text) words

abbrev pub called_as : Option Known → Given → (called : Option (List ℕ)) → Written → Word → List Word → List Finding
called_as known given called text word words =
    arguments_foreign called text words ++ exit_if (is_exit called) word.start ++ many_findings (word ∷ words)
    ++ use_findings known given called text word words ++ words_findings known text (word ∷ words)

abbrev pub call_findings : Option Known → Given → Written → List Word → List Finding
call_findings known given text [] = []
call_findings known given text (word ∷ words) =
    command_findings known given text (word ∷ words)
    ++ called_as known given (called_by given (word_atoms text word)) text word words

abbrev pub assignment_findings : Option Known → Given → Written → (name value : Word) → List Finding
assignment_findings known given text name value =
    assigned_findings given.shell known name.start (literal_of (word_atoms text name))
    ++ unset_findings name.start (literal_of (word_atoms text value)) ++ word_findings known text value
    ++ reread_findings known false text value

abbrev pub list_findings : Option Known → Written → List Word → List Finding
list_findings known text words =
    flat_map (cut_findings text) words ++ flat_map (reserved_findings text) words ++ flat_map (foreign_findings text) words
    ++ flat_map (word_findings known text) words ++ flat_map (reread_findings known false text) words

abbrev pub binding_findings : Option Known → Given → Written → (name : Word) → List Word → List Finding
binding_findings known given text name words =
    assigned_findings given.shell known name.start (literal_of (word_atoms text name)) ++ list_findings known text words

abbrev pub item_findings : Option Known → Given → Written → Item → List Finding
item_findings known given text (item.Call s words) = begun_by text s words.now ++ call_findings known given text words.now
item_findings known given text (item.Assignment s name value) =
    setting_findings s name.start (shows_in text value) ++ assignment_findings known given text name value
item_findings known given text (item.Binding s name words) =
    setting_findings s name.start (list_any (shows_in text) words.now) ++ binding_findings known given text name words.now
