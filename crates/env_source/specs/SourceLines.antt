-- The lines of a source (docs/texts.md, "A source of U-Boot").
use Rattle.std.specs.Prelude.{ℕ, ◌==◌, ◌&&◌, ◌||◌, not, Bool, true, false, if◌then◌else◌, List, [], ◌∷◌, drop, length, reverse, Option, Some, None, Result, Ok, Err}
use Rattle.std.specs.Borrow.{Bor}
use Rattle.std.specs.List.{before_first, list_any, position_or_len}
use Rattle.envimg_core.specs.Environment.{is_zero}
use Rattle.envimg_core.specs.Bytes.{equals}
use Rattle.envcfg_core.specs.Bytes.{backslash}
use Rattle.text_parts.specs.Bytes.{begins, begins_with, carriage_return, hash, space, tab, without_blanks}
use Rattle.text_parts.specs.Digits.{digits_in_front, is_digit}
use Rattle.text_parts.specs.declared.digits.Base.TheVariants.{Decimal, Octal}
use Rattle.env_source.specs.declared.source_fault.Flaw.{Flaw}
use Rattle.env_source.specs.declared.source_fault.Flaw.TheVariants as flaw
use Rattle.env_source.specs.declared.source_line.SourceLine as lines
use Rattle.env_source.specs.declared.source_line.SourceLine.TheVariants as line

-- what a line says: nothing; the value before it goes on with a text; a variable begins, and its value with a text;
-- or what is so far the variable's value is before that text
pub data SourceLine : Type 0 where
  Skipped : SourceLine
  GoesOn : List ℕ → SourceLine
  Sets : List ℕ → List ℕ → SourceLine
  Appends : List ℕ → List ℕ → SourceLine

abbrev pub LineOrFlaw : Type 0
LineOrFlaw = Result SourceLine Flaw

abbrev pub quote : ℕ
quote = 34

abbrev pub plus : ℕ
plus = 43

abbrev pub is_empty : List ℕ → Bool
is_empty text = length text == 0

-- a name is added to by `+=`, which needs both sides
abbrev pub appended : (name value : List ℕ) → LineOrFlaw
appended name value =
    if is_empty name then Err flaw.NoName
    else if is_empty value then Err flaw.NoAddition
    else Ok (Appends name value)

-- what is before a `+` at the end
abbrev pub before_last_plus : (reversed : List ℕ) → Option (List ℕ)
before_last_plus [] = None
before_last_plus (b ∷ bs) = if b == plus then Some (reverse bs) else None

abbrev pub before_plus : List ℕ → Option (List ℕ)
before_plus name = before_last_plus (reverse name)

abbrev pub set_or_appended : (name value : List ℕ) → Option (List ℕ) → LineOrFlaw
set_or_appended name value None = Ok (Sets name value)
set_or_appended name value (Some stem) = appended stem value

-- a digit that the C compiler would add to the `\0` before it
abbrev pub is_octal : ℕ → Bool
is_octal b = is_digit Octal b

abbrev pub defined : (name value : List ℕ) → LineOrFlaw
defined name value =
    if list_any (λ b. b == tab) name then Err flaw.Tab
    else if begins is_octal name then Err flaw.Digit
    else set_or_appended name value (before_plus name)

-- a name ends at the first space or `=`
abbrev pub ends_name : ℕ → Bool
ends_name b = b == space || b == equals

abbrev pub is_name : List ℕ → Bool
is_name name = not (is_empty name) && not (begins_with tab name)

-- a line defines a variable if `=` is behind a name
abbrev pub cut_by : (name behind : List ℕ) → Option (List ℕ × List ℕ)
cut_by name [] = None
cut_by name (b ∷ value) = if b == equals && is_name name then Some (name, value) else None

abbrev pub cut_at_equals : List ℕ → Option (List ℕ × List ℕ)
cut_at_equals line = cut_by (before_first ends_name line) (drop (position_or_len ends_name line) line)

-- a comment for the preprocessor begins
abbrev pub opens_comment : List ℕ → Bool
opens_comment [] = false
opens_comment (b ∷ []) = false
opens_comment (b ∷ c ∷ bs) = b == 47 && c == 42

-- what is wrong with a text without blanks at its front, whatever line it is in
abbrev pub fault_of : List ℕ → Option Flaw
fault_of text =
    if begins_with hash text then Some flaw.Directive
    else if opens_comment text then Some flaw.Comment
    else if list_any (λ b. b == backslash) text then Some flaw.Backslash
    else None

abbrev pub said : List ℕ → Option (List ℕ × List ℕ) → LineOrFlaw
said text None = Ok (GoesOn text)
said text (Some (name, value)) = defined name value

abbrev pub unless_fault : Option Flaw → LineOrFlaw → LineOrFlaw
unless_fault (Some flaw) line = Err flaw
unless_fault None line = line

-- a line that the preprocessor didn't write; blanks alone are skipped
abbrev pub written : List ℕ → LineOrFlaw
written line =
    if is_empty (without_blanks line) then Ok Skipped
    else unless_fault (fault_of (without_blanks line)) (said (without_blanks line) (cut_at_equals line))

-- a space and a quote are behind a number
abbrev pub opens_path : List ℕ → Bool
opens_path [] = false
opens_path (b ∷ []) = false
opens_path (b ∷ c ∷ bs) = b == space && c == quote

abbrev pub numbered : List ℕ → Bool
numbered text = not (is_empty (digits_in_front Decimal text)) && opens_path (drop (length (digits_in_front Decimal text)) text)

-- a line that the preprocessor wrote: `# 12 "board.env"`
abbrev pub is_marker : List ℕ → Bool
is_marker [] = false
is_marker (b ∷ []) = false
is_marker (b ∷ c ∷ bs) = b == hash && c == space && numbered bs

-- what a line says, or what is wrong with it
abbrev pub read_line : List ℕ → LineOrFlaw
read_line line =
    if list_any is_zero line then Err flaw.Nul
    else if list_any (λ b. b == carriage_return) line then Err flaw.CarriageReturn
    else if is_marker line then Ok Skipped
    else written line

-- what the code answers for a line
abbrev pub said_view : lines.SourceLine → SourceLine
said_view line.Skipped = Skipped
said_view (line.GoesOn text) = GoesOn text.now
said_view (line.Sets name value) = Sets name.now value.now
said_view (line.Appends name value) = Appends name.now value.now

abbrev pub line_view : Result lines.SourceLine Flaw → LineOrFlaw
line_view (Ok found) = Ok (said_view found)
line_view (Err flaw) = Err flaw
