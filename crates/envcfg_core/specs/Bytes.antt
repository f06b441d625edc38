-- The bytes that a text for import tells apart, and what an empty value is in import and set script.
use Rattle.std.specs.Prelude.{ℕ, Bool, ◌||◌, ◌==◌, List, length, Option, Some, None, if◌then◌else◌}
use Rattle.text_parts.specs.Bytes.{is_newline}

-- `\`, which makes the next byte of a value literal
abbrev pub backslash : ℕ
backslash = 92

-- the bytes that don't stand for themselves in the text of a value: `\`, and the newline that ends it
abbrev pub is_marked : ℕ → Bool
is_marked b = b == backslash || is_newline b

-- an empty value is no value
abbrev pub some_unless_empty : List ℕ → Option (List ℕ)
some_unless_empty value = if length value == 0 then None else Some value
