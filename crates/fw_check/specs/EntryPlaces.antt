-- Places in the text that an environment was read from (docs/check.md, "Formats").
use Rattle.std.specs.Prelude.{◌≡◌, ◌≤◌, ℕ, zero, suc, ◌==◌, ◌+◌, ◌-◌, ◌^◌, ◌&&◌, min, not, Bool, true, false, List, [], ◌∷◌, length, fold, map, take, Some, if◌then◌else◌}
use Rattle.std.specs.List.{AllByRecursion, after_first}
use Rattle.std.specs.Str.{bytes_eq}
use Rattle.envcfg_core.specs.Entries.{Entry, entry_view}
use Rattle.envcfg_core.specs.Import.{spelled}
use Rattle.envimg_core.specs.Environment.{is_equals}
use Rattle.text_parts.specs.Bytes.{is_newline}
use Rattle.fw_engines.specs.TextPlaces.{place_of}
use Rattle.fw_engines.specs.declared.text_places.Place.{Place}
use Rattle.fw_check.specs.declared.entry_places.EnvironmentText as places

-- the path of a file, what is in it as a text for import, and the entries of that
pub record EnvironmentText : Type 0 where
  pub path : List ℕ
  pub text : List ℕ
  pub entries : List Entry

-- how many lines are before the last entry of a name
abbrev pub line_with : (name : List ℕ) → ℕ → Entry → ℕ
line_with name before e = if bytes_eq name e.name then e.line - 1 else before

abbrev pub lines_before : List Entry → (name : List ℕ) → ℕ
lines_before entries name = fold (line_with name) 0 entries

-- what follows so many lines
unfoldable pub after_lines : ℕ → List ℕ → List ℕ
after_lines zero text = text
after_lines (suc n) text = after_lines n (after_first is_newline text)

-- an entry in a text: how many lines are before it, the text from its line on, and that from its value on
pub record EntryText : Type 0 where
  pub before : ℕ
  pub text : List ℕ
  pub value : List ℕ

abbrev pub entry_at : (before : ℕ) → (text : List ℕ) → EntryText
entry_at before text = record { before = before; text = text; value = after_first is_equals text }

abbrev pub entry_after : (before : ℕ) → (text : List ℕ) → EntryText
entry_after before text = entry_at before (after_lines before text)

abbrev pub entry_of : EnvironmentText → (name : List ℕ) → EntryText
entry_of t name = entry_after (lines_before t.entries name) t.text

-- how many bytes of a value's text spell the first `count` bytes of the value. A `\` makes the next byte literal
abbrev pub is_escape : (escaped : Bool) → (byte : ℕ) → Bool
is_escape escaped byte = byte == 92 && not escaped

unfoldable pub spelled_length : (escaped : Bool) → (count : ℕ) → List ℕ → ℕ
spelled_length escaped count [] = 0
spelled_length escaped zero (b ∷ bs) = 0
spelled_length true (suc n) (b ∷ bs) = suc (spelled_length false n bs)
spelled_length false (suc n) (b ∷ bs) = suc (if b == 92 then spelled_length true (suc n) bs else spelled_length false n bs)

-- these bytes and no others stand for them
abbrev pub Spells : (text : List ℕ) → (count length_of : ℕ) → Type 0
Spells text count length_of =
    count ≤ length (spelled false text).bytes → (spelled false (take length_of text)).bytes ≡ take count (spelled false text).bytes

-- a value is what is spelled behind the first `=` of its entry's line
abbrev pub IsThere : (text : List ℕ) → Entry → Type 0
IsThere text e = (value : List ℕ) → e.value ≡ Some value → (spelled false (entry_after (e.line - 1) text).value).bytes ≡ value

abbrev pub AreThere : (text : List ℕ) → List Entry → Type 0
AreThere text entries = AllByRecursion (IsThere text) entries

-- lines count on, up to the most of 64 bits
abbrev pub below : (before : ℕ) → Place → Place
below before p = record { line = min (before + p.line) (2 ^ 64 - 1); column = p.column }

-- the place after `count` bytes of the value
abbrev pub place_in_entry : EntryText → (count : ℕ) → Place
place_in_entry e count =
    below e.before (place_of e.text (length e.text - length e.value + spelled_length false count e.value))

-- the code's text, in this form
abbrev pub text_view : places.EnvironmentText → EnvironmentText
text_view t = record { path = t.path.now; text = t.text.now; entries = map entry_view t.entries.now }
