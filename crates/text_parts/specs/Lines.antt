-- The lines of a text.
use Rattle.std.specs.Prelude.{ℕ, List}
use Rattle.std.specs.List.{slice_split, enumerate_from}
use Rattle.std.specs.Borrow.{Bor}
use Rattle.text_parts.specs.Bytes.{is_newline}

-- a line with its number
abbrev pub Line : Type 0
Line = ℕ × List ℕ

abbrev pub line_view : ℕ × Bor (List ℕ) → Line
line_view (number, bytes) = (number, bytes.now)

-- the lines between newlines, counted from this number on; the last one, perhaps empty, ends with the text
abbrev pub lines_from : ℕ → List ℕ → List Line
lines_from number text = enumerate_from number (slice_split is_newline text)

-- the lines of a whole text, counted from 1
abbrev pub numbered_lines : List ℕ → List Line
numbered_lines text = lines_from 1 text
