-- The answers of a board file (docs/runs.md, "Board files").
use Rattle.std.specs.Prelude.{ℕ, Bool, true, false, not, ◌||◌, if◌then◌else◌, List, codes, reverse, is_some, Option, Some, None, Result, Ok, Err}
use Rattle.std.specs.Str.{bytes_eq}
use Rattle.text_parts.specs.Bytes.{without_blanks}
use Rattle.hush_syntax.specs.declared.nodes.Bodies.TheVariants.{MayBeEmpty}
use Rattle.hush_syntax.specs.Reading.{read_in}
use Rattle.hush_commands.specs.declared.board_rules.Reply.{Reply}
use Rattle.hush_commands.specs.declared.board_rules.Reply.TheVariants.{Status, Text, Lacks}
use Rattle.hush_commands.specs.declared.departure.Leaving.TheVariants as leaving
use Rattle.hush_commands.specs.Statuses.{status_of}
use Rattle.board_file.specs.declared.board_fault.LineFault.{LineFault}
use Rattle.board_file.specs.declared.board_fault.LineFault.TheVariants.{NoAnswer, NoScript}

-- a text without the blanks at both ends
abbrev pub trimmed : List ℕ → List ℕ
trimmed text = reverse (without_blanks (reverse (without_blanks text)))

abbrev pub ReplyOrFault : Type 0
ReplyOrFault = Result Reply LineFault

-- a script, as the board's shell reads it
abbrev pub script_answer : List ℕ → ReplyOrFault
script_answer text = if is_some (read_in MayBeEmpty text) then Ok (Text text) else Err NoScript

abbrev pub word_answer : List ℕ → ReplyOrFault
word_answer text =
    if bytes_eq (codes "") text then Err NoAnswer
    else if bytes_eq (codes "?") text then Ok (Status 0 (Some leaving.Asks))
    else if bytes_eq (codes "resets") text then Ok (Status 0 (Some leaving.Resets))
    else if bytes_eq (codes "boots") text then Ok (Status 0 (Some leaving.Boots))
    else script_answer text

abbrev pub answer_by : List ℕ → Option ℕ → ReplyOrFault
answer_by text (Some status) = Ok (Status status None)
answer_by text None = word_answer text

-- a status, one of the words, or a script
abbrev pub answer_of : List ℕ → ReplyOrFault
answer_of text = answer_by text (status_of text)

-- whether an answer is open
abbrev pub asks : Reply → Bool
asks (Status status None) = false
asks (Status status (Some leaving.Boots)) = false
asks (Status status (Some leaving.Resets)) = false
asks (Status status (Some leaving.Asks)) = true
asks (Text text) = false
asks Lacks = false

-- whether it answers `test -e`: it is a status, and nothing else, or open
abbrev pub is_status : Reply → Bool
is_status (Status status leaves) = not (is_some leaves)
is_status (Text text) = false
is_status Lacks = false

abbrev pub answers_file : Reply → Bool
answers_file reply = is_status reply || asks reply
