-- Which command a word names (docs/runs.md, "Boards").
use Rattle.std.specs.Prelude.{ℕ, ◌==◌, ◌||◌, ◌&&◌, nat_le, not, Bool, true, false, if◌then◌else◌, List, [], ◌∷◌, length, take, fold, map, is_some, Option, Some, None, unwrap_or}
use Rattle.std.specs.List.{before_first}
use Rattle.std.specs.Str.{bytes_eq}
use Rattle.std.specs.FinMap as names
use Rattle.hush_commands.specs.declared.pattern.PatternWord.{PatternWord}
use Rattle.hush_commands.specs.declared.board_rules.Rule.{Rule}
use Rattle.hush_commands.specs.declared.board_rules.Reply.{Reply}
use Rattle.hush_commands.specs.declared.board_rules.Reply.TheVariants.{Status, Text, Lacks}
use Rattle.hush_commands.specs.declared.shell.Shell.{Shell}
use Rattle.hush_commands.specs.declared.shell.Shell.TheVariants.{Strict, Board}
use Rattle.hush_commands.specs.declared.builtins.Builtin.{Builtin}
use Rattle.hush_commands.specs.Builtins.{builtin_of, builtins, name_of}
use Rattle.hush_commands.specs.Stubs.{Statuses, status_of_name}
use Rattle.hush_commands.specs.Hardware.{Hardware, hardware}

-- a board reads a name up to its first `.`: what is after it is a width
abbrev pub is_dot : ℕ → Bool
is_dot b = b == 46

abbrev pub without_width : List ℕ → List ℕ
without_width name = before_first is_dot name

abbrev pub begins_with : (word name : List ℕ) → Bool
begins_with word name = bytes_eq word (take (length word) name)

-- of the names that begin with a word the first, and whether there are others
pub record FoundNames : Type 0 where
  pub first : Option (List ℕ)
  pub several : Bool

abbrev pub found_names : Option (List ℕ) → Bool → FoundNames
found_names first several = record { first = first; several = several }

abbrev pub another : Option (List ℕ) → (several : Bool) → (name : List ℕ) → FoundNames
another None several name = found_names (Some name) several
another (Some first) several name = found_names (Some first) (several || not (bytes_eq first name))

unfoldable pub with_name : (word : List ℕ) → FoundNames → (name : List ℕ) → FoundNames
with_name word so_far name = if begins_with word name then another so_far.first so_far.several name else so_far

abbrev pub with_names : (word : List ℕ) → FoundNames → List (List ℕ) → FoundNames
with_names word so_far names = fold (with_name word) so_far names

abbrev pub only_name : FoundNames → Option (List ℕ)
only_name so_far = if so_far.several then None else so_far.first

-- the name of the calls that a rule answers: the first word of its pattern
abbrev pub pattern_name : List PatternWord → Option (List ℕ)
pattern_name [] = None
pattern_name (word ∷ words) = if word.begins then None else Some word.text

-- a whole rule names no command
abbrev pub rule_name : Rule → Option (List ℕ)
rule_name rule = if rule.whole then None else pattern_name rule.pattern

abbrev pub is_name : (name : List ℕ) → Option (List ℕ) → Bool
is_name name None = false
is_name name (Some own) = bytes_eq name own

abbrev pub is_ruled : List Rule → (name : List ℕ) → Bool
is_ruled [] name = false
is_ruled (rule ∷ rules) name = is_name name (rule_name rule) || is_ruled rules name

-- whether a board lacks the builtin of a name
abbrev pub is_lack : Reply → Bool
is_lack (Status status leaves) = false
is_lack (Text text) = false
is_lack Lacks = true

abbrev pub lacks : List Rule → (name : List ℕ) → Bool
lacks [] name = false
lacks (rule ∷ rules) name = is_lack rule.reply && is_name name (rule_name rule) || lacks rules name

-- whether a rule may answer a call of a name, in another way than that the board lacks it
abbrev pub is_answered : List Rule → (name : List ℕ) → Bool
is_answered [] name = false
is_answered (rule ∷ rules) name = not (is_lack rule.reply) && is_name name (rule_name rule) || is_answered rules name

abbrev pub with_own : (word : List ℕ) → FoundNames → Option (List ℕ) → FoundNames
with_own word so_far None = so_far
with_own word so_far (Some name) = with_name word so_far name

abbrev pub with_rules : (word : List ℕ) → FoundNames → List Rule → FoundNames
with_rules word so_far [] = so_far
with_rules word so_far (rule ∷ rules) = with_rules word (with_own word so_far (rule_name rule)) rules

abbrev pub stub_names : Statuses → List (List ℕ)
stub_names stubs = map (λ entry. entry.0) (names.entries stubs)

abbrev pub is_known : Hardware → List ℕ → Bool
is_known h name = is_some (builtin_of name) || (is_ruled h.rules name || is_some (status_of_name h.stubs name))

-- the names that begin with a word: of builtins, rules and stand-ins
abbrev pub found_in : Hardware → (word : List ℕ) → FoundNames
found_in h word = with_names word (with_rules word (with_names word (found_names None false) (map name_of builtins)) h.rules) (stub_names h.stubs)

-- a name that is known comes first, as it is or without its width, and then the only one that begins so
abbrev pub whole_name : Hardware → (word : List ℕ) → List ℕ
whole_name h word =
    if is_known h word then word
    else if is_known h (without_width word) then without_width word
    else unwrap_or (only_name (found_in h (without_width word))) word

abbrev pub name_by : Shell → Hardware → (word : List ℕ) → List ℕ
name_by Strict h word = word
name_by Board h word = whole_name h word

-- the same beside this hardware, if there is some
abbrev pub name_among : Shell → Option Hardware → (word : List ℕ) → List ℕ
name_among shell h word = name_by shell (unwrap_or h (hardware [] names.empty)) word

-- whether a rule or a stand-in may answer a call of a name; of a builtin that the board lacks no stand-in is asked
abbrev pub has_answer : Hardware → (name : List ℕ) → Bool
has_answer h name = is_answered h.rules name || not (lacks h.rules name) && is_some (status_of_name h.stubs name)

-- whether a board doesn't lack a builtin
abbrev pub is_left : List Rule → Option Builtin → Bool
is_left rules None = false
is_left rules (Some builtin) = not (lacks rules (name_of builtin))

-- whether a command of a name is there
abbrev pub is_command : Hardware → (name : List ℕ) → Bool
is_command h name = has_answer h name || is_left h.rules (builtin_of name)

-- whether a word names a command that is there, by a shell
abbrev pub names_command : Shell → Hardware → (word : List ℕ) → Bool
names_command shell h word = is_command h (name_by shell h word)

-- a word after `env` is the name of one of its commands; on a board it may be its first bytes, so many that no other of
-- U-Boot's begins so (default, delete, edit, exists, export, import, print, run, save, set), and have a width
abbrev pub is_front : (least : ℕ) → (name word : List ℕ) → Bool
is_front least name word = nat_le least (length word) && begins_with word name

abbrev pub stands_for : Shell → (least : ℕ) → (name word : List ℕ) → Bool
stands_for Strict least name word = bytes_eq name word
stands_for Board least name word = is_front least name (without_width word)
