-- The set script, read line by line.
use Rattle.std.specs.Prelude.{ℕ, Bool, ◌||◌, ◌==◌, List, [], ◌∷◌, length, Option, Some, None, Result, Ok, Err, if◌then◌else◌}
use Rattle.std.specs.List.{list_any, list_all, before_first, after_first}
use Rattle.std.specs.Str.Lines.{strip_carriage_return}
use Rattle.envcfg_core.specs.declared.entry.TextFault.{TextFault}
use Rattle.envcfg_core.specs.declared.entry.TextFault.TheVariants.{EmptyName, Nul}
use Rattle.envimg_core.specs.Environment.{is_zero}
use Rattle.text_parts.specs.Bytes.{begins_with, hash, is_blank, without_blanks}
use Rattle.text_parts.specs.Lines.{Line, numbered_lines}
use Rattle.envimg_core.specs.Bytes.{equals}
use Rattle.envcfg_core.specs.Bytes.{some_unless_empty}
use Rattle.envcfg_core.specs.Entries.{Entry, Outcome, with_first}

-- a key ends at the first blank or `=`
abbrev pub ends_key : ℕ → Bool
ends_key b = is_blank b || b == equals

-- a line whose first byte is `#`, or that is empty or blanks alone
abbrev pub is_skipped_line : List ℕ → Bool
is_skipped_line text = begins_with hash text || list_all is_blank text

-- what a line holds: the key, and after the byte that ends it and further blanks the value
abbrev pub line_outcome : ℕ → List ℕ → Result (Option Entry) TextFault
line_outcome number text =
    let key = before_first ends_key (without_blanks text) in
    let value = without_blanks (after_first ends_key (without_blanks text)) in
    if is_skipped_line text then Ok None
    else if length key == 0 then Err (EmptyName number)
    else Ok (Some (record { name = key; value = some_unless_empty value; line = number }))

-- what a line holds before what the lines after it hold
abbrev pub before : Result (Option Entry) TextFault → Outcome → Outcome
before (Ok None) later = later
before (Ok (Some e)) later = with_first e later
before (Err fault) later = Err fault

-- what lines hold; one carriage return at a line's end is dropped
abbrev pub entries_of_lines : List Line → Outcome
entries_of_lines [] = Ok []
entries_of_lines (line ∷ lines) = before (line_outcome line.0 (strip_carriage_return line.1)) (entries_of_lines lines)

-- what a whole set script is read as: a 0 byte anywhere is looked for first
abbrev pub set_script_of : List ℕ → Outcome
set_script_of text = if list_any is_zero text then Err Nul else entries_of_lines (numbered_lines text)
