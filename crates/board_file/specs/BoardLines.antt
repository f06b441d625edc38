-- The lines of a board file (docs/runs.md, "Board files").
use Rattle.std.specs.Prelude.{ℕ, ◌==◌, ◌&&◌, nat_lt, not, Bool, true, false, if◌then◌else◌, List, [], ◌∷◌, drop, is_some, length, Option, Some, None, option_map, Result, Ok, Err}
use Rattle.std.specs.List.{list_any}
use Rattle.envimg_core.specs.Environment.{is_zero}
use Rattle.text_parts.specs.Bytes.{begins_with, is_blank}
use Rattle.text_parts.specs.Numerals.{minus}
use Rattle.hush_commands.specs.declared.pattern.PatternWord.{PatternWord}
use Rattle.hush_commands.specs.declared.board_rules.Rule.{Rule}
use Rattle.hush_commands.specs.declared.board_rules.Reply.{Reply}
use Rattle.hush_commands.specs.declared.board_rules.Reply.TheVariants.{Status, Lacks}
use Rattle.hush_commands.specs.Builtins.{builtin_of}
use Rattle.hush_commands.specs.CommandNames.{is_dot}
use Rattle.hush_commands.specs.StandInLines.{is_comment, rest_status, words_of}
use Rattle.board_file.specs.declared.board_fault.LineFault.{LineFault}
use Rattle.board_file.specs.declared.board_fault.LineFault.TheVariants.{Nul, Long, Form, Minus, NoStatus}
use Rattle.board_file.specs.Patterns.{asks_file, pattern_fault, pattern_word, pattern_words}
use Rattle.board_file.specs.Answers.{ReplyOrFault, answer_of, answers_file, trimmed}

-- a blank, or the end of the line
abbrev pub ends_here : List ℕ → Bool
ends_here [] = true
ends_here (b ∷ bs) = is_blank b

-- what is behind a word `->`, if a text begins with it
abbrev pub behind_arrow : List ℕ → Option (List ℕ)
behind_arrow [] = None
behind_arrow (b ∷ []) = None
behind_arrow (b ∷ c ∷ bs) = if b == 45 && c == 62 && ends_here bs then Some bs else None

-- two parts of a line
abbrev pub Parts : Type 0
Parts = List ℕ × List ℕ

abbrev pub with_byte : ℕ → Option Parts → Option Parts
with_byte b parts = option_map (λ found. (b ∷ found.0, found.1)) parts

abbrev pub cut_by : Option (List ℕ) → (later : Option Parts) → Option Parts
cut_by (Some behind) later = Some ([], behind)
cut_by None later = later

-- what is before the first word `->` and what is behind it; whether a word may begin here
abbrev pub cut_from : (begins : Bool) → List ℕ → Option Parts
cut_from begins [] = None
cut_from begins (b ∷ bs) = cut_by (if begins then behind_arrow (b ∷ bs) else None) (with_byte b (cut_from (is_blank b) bs))

abbrev pub cut_at_arrow : List ℕ → Option Parts
cut_at_arrow line = cut_from true line

abbrev pub RuleOrFault : Type 0
RuleOrFault = Result Rule LineFault

-- `test -e` takes a status or an open answer
abbrev pub rule_of : List PatternWord → Reply → RuleOrFault
rule_of pattern reply =
    if asks_file pattern && not (answers_file reply) then Err NoStatus else Ok (record { pattern = pattern; whole = false; reply = reply })

-- a rule, or what is at fault in it, from the left
abbrev pub rule_by : List PatternWord → Option LineFault → ReplyOrFault → RuleOrFault
rule_by pattern (Some fault) answer = Err fault
rule_by pattern None (Err fault) = Err fault
rule_by pattern None (Ok reply) = rule_of pattern reply

abbrev pub rule_with : List PatternWord → ReplyOrFault → RuleOrFault
rule_with pattern answer = rule_by pattern (pattern_fault pattern) answer

-- `PATTERN -> ANSWER`
abbrev pub read_rule : (front back : List ℕ) → RuleOrFault
read_rule front back = rule_with (pattern_words (words_of front)) (answer_of (trimmed back))

-- what a line holds: a rule or nothing
abbrev pub LineOrFault : Type 0
LineOrFault = Result (Option Rule) LineFault

abbrev pub holding : RuleOrFault → LineOrFault
holding (Ok rule) = Ok (Some rule)
holding (Err fault) = Err fault

-- `NAME`, which is `NAME -> 0`, or `NAME STATUS`, which is `NAME -> STATUS`
abbrev pub named_rule : (name : List ℕ) → Option ℕ → RuleOrFault
named_rule name None = Err Form
named_rule name (Some status) = rule_with (pattern_word name ∷ []) (Ok (Status status None))

-- `-NAME`: the board lacks the builtin of this name
abbrev pub is_lackable : List ℕ → Bool
is_lackable name = is_some (builtin_of name) && not (list_any is_dot name)

abbrev pub lacking_rule : (name : List ℕ) → RuleOrFault
lacking_rule name =
    if is_lackable name then Ok (record { pattern = record { text = name; begins = false } ∷ []; whole = false; reply = Lacks }) else Err Minus

abbrev pub word_rule : (name : List ℕ) → RuleOrFault
word_rule name = if begins_with minus name then lacking_rule (drop 1 name) else named_rule name (Some 0)

abbrev pub read_words : List (List ℕ) → LineOrFault
read_words [] = Ok None
read_words (name ∷ []) = holding (word_rule name)
read_words (name ∷ status ∷ words) = holding (named_rule name (rest_status (status ∷ words)))

abbrev pub read_parts : List ℕ → Option Parts → LineOrFault
read_parts line None = read_words (words_of line)
read_parts line (Some parts) = holding (read_rule parts.0 parts.1)

-- how many bytes a line may have
abbrev pub most_line : ℕ
most_line = 4096

-- a line with a 0 byte, and one that is too long, is at fault, even if it is a comment
abbrev pub read_line : List ℕ → LineOrFault
read_line line =
    if list_any is_zero line then Err Nul
    else if nat_lt most_line (length line) then Err Long
    else if is_comment line then Ok None
    else read_parts line (cut_at_arrow line)
