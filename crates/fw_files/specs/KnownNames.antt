-- Files of names that a board's own code sets (docs/check.md, "Which names are known").
use Rattle.std.specs.Prelude.{◌≡◌, ℕ, ◌==◌, ◌||◌, Bool, not, List, [], ◌∷◌, ◌++◌, length, map, Vec, Option, Some, None, Result, Ok, Err, if◌then◌else◌}
use Rattle.std.specs.List.{list_any}
use Rattle.std.specs.declared.alloc.Global.{Global}
use Rattle.std.specs.Str.Lines.{strip_carriage_return}
use Rattle.memchr.specs.Find.{is_byte}
use Rattle.text_parts.specs.Bytes.{begins_with, hash, without_blanks}
use Rattle.text_parts.specs.Lines.{Line, numbered_lines}
use Rattle.fw_files.specs.FileTexts.{Holds}
use Rattle.fw_files.specs.Files.{IsTextAt}
use Rattle.fw_files.specs.declared.file_fault.FileFault.{FileFault}
use Rattle.fw_files.specs.declared.file_fault.FileFault.TheVariants as file

-- names in the code's form
abbrev pub names_view : Vec (Vec ℕ Global) Global → List (List ℕ)
names_view names = map (λ n. n.items) names.items

-- names, or the number of the first line that is none
abbrev pub NamesOrLine : Type 0
NamesOrLine = Result (List (List ℕ)) ℕ

-- a text without a blank, a `=` and a byte 0
abbrev pub is_known_name : List ℕ → Bool
is_known_name text = not (list_any (is_byte 32) text || (list_any (is_byte 9) text || (list_any (is_byte 61) text || list_any (is_byte 0) text)))

-- the names with that of a line, without the blanks at its front; an empty line and a comment have none
abbrev pub with_text : ℕ → List (List ℕ) → List ℕ → NamesOrLine
with_text number names text =
    if length text == 0 || begins_with hash text then Ok names
    else if is_known_name text then Ok (names ++ text ∷ [])
    else Err number

abbrev pub with_line : List (List ℕ) → Line → NamesOrLine
with_line names line = with_text line.0 names (without_blanks (strip_carriage_return line.1))

abbrev pub and_then : NamesOrLine → (List (List ℕ) → NamesOrLine) → NamesOrLine
and_then (Ok names) next = next names
and_then (Err number) next = Err number

-- line by line, as far as the first that is none
abbrev pub with_lines : List (List ℕ) → List Line → NamesOrLine
with_lines names [] = Ok names
with_lines names (line ∷ lines) = and_then (with_line names line) (λ more. with_lines more lines)

-- what a whole file is read as
abbrev pub known_names : List ℕ → NamesOrLine
known_names text = with_lines [] (numbered_lines text)

-- the names are those of the text at a path, or there are none
abbrev pub AreKnownOf : Holds → Option (List ℕ) → List (List ℕ) → Type 0
AreKnownOf holds None names = names ≡ []
AreKnownOf holds (Some path) names = (text : List ℕ) × IsTextAt holds path text × (known_names text ≡ Ok names)

-- the fault is the definition's, or memory was refused
abbrev pub IsKnownFault : NamesOrLine → FileFault → Type 0
IsKnownFault outcome (file.NoName number) = outcome ≡ Err number
IsKnownFault outcome file.Memory = Unit {0}
IsKnownFault outcome fault = ⊥
