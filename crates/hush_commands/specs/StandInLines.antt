-- The lines of a stand-in file (docs/runs.md, "Stand-ins").
use Rattle.std.specs.Prelude.{ℕ, Bool, List, [], ◌∷◌, is_some, Option, Some, None, option_map, Result, Ok, Err, if◌then◌else◌}
use Rattle.std.specs.Borrow.{Bor}
use Rattle.std.specs.List.{list_any}
use Rattle.envimg_core.specs.Environment.{is_zero}
use Rattle.text_parts.specs.Bytes.{begins_with, hash, is_blank}
use Rattle.text_parts.specs.Words.{words_between}
use Rattle.hush_commands.specs.declared.stand_in_line.StubFault.{StubFault}
use Rattle.hush_commands.specs.declared.stand_in_line.StubFault.TheVariants.{Line, Builtin}
use Rattle.hush_commands.specs.Builtins.{builtin_of}
use Rattle.hush_commands.specs.Statuses.{status_of}

-- a name and its status
abbrev pub StandIn : Type 0
StandIn = List ℕ × ℕ

-- what a line holds: a stand-in, or nothing, or it is at fault
abbrev pub StandInLine : Type 0
StandInLine = Result (Option StandIn) StubFault

-- the status of a stand-in by the words after its name: 0 if there are none
abbrev pub rest_status : List (List ℕ) → Option ℕ
rest_status [] = Some 0
rest_status (digits ∷ []) = status_of digits
rest_status (digits ∷ more ∷ words) = None

abbrev pub read_stand_in : ℕ → List ℕ → Option ℕ → StandInLine
read_stand_in number name None = Err (Line number)
read_stand_in number name (Some status) = if is_some (builtin_of name) then Err (Builtin number) else Ok (Some (name, status))

abbrev pub read_words : ℕ → List (List ℕ) → StandInLine
read_words number [] = Ok None
read_words number (name ∷ words) = read_stand_in number name (rest_status words)

-- the words of a line: what is between blanks, if something is
abbrev pub words_of : List ℕ → List (List ℕ)
words_of line = words_between is_blank line

-- a comment begins with `#`
abbrev pub is_comment : List ℕ → Bool
is_comment text = begins_with hash text

-- a line with a 0 byte is at fault, even if it is a comment
abbrev pub read_line : ℕ → List ℕ → StandInLine
read_line number text =
    if list_any is_zero text then Err (Line number)
    else if is_comment text then Ok None
    else read_words number (words_of text)

-- what the code answers for a line
abbrev pub line_view : Result (Option (Bor (List ℕ) × ℕ)) StubFault → StandInLine
line_view (Ok found) = Ok (option_map (λ stand_in. (stand_in.0.now, stand_in.1)) found)
line_view (Err fault) = Err fault
