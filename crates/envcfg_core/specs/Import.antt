-- The text for import, as its reader goes over it entry by entry: for any text, one with a fault too, it says what is read.
-- Spelling.antt says the same without a reader, and the law `texts_are_read_as_they_spell` that both agree.
use Rattle.std.specs.Prelude.{ℕ, zero, suc, ◌+◌, Bool, true, false, ◌||◌, ◌==◌, List, [], ◌∷◌, length, drop, Ok, Err, if◌then◌else◌}
use Rattle.std.specs.List.{list_any, position_or_len, before_first, after_first}
use Rattle.envcfg_core.specs.declared.entry.TextFault.TheVariants.{EmptyName, Nul}
use Rattle.envimg_core.specs.Environment.{is_zero}
use Rattle.text_parts.specs.Bytes.{hash, is_blank, is_newline}
use Rattle.envimg_core.specs.Bytes.{equals}
use Rattle.envcfg_core.specs.Bytes.{some_unless_empty, backslash}
use Rattle.envcfg_core.specs.Entries.{Outcome, with_first}

-- a value as its text spells it: the bytes that it stands for, the newlines that its text holds, and what follows the text
pub record Spelled : Type 0 where
  pub bytes : List ℕ
  pub newlines : ℕ
  pub rest : List ℕ

-- the value text with one byte more at its front
abbrev pub with_byte : ℕ → Spelled → Spelled
with_byte b v = record { bytes = b ∷ v.bytes; newlines = (if is_newline b then 1 else 0) + v.newlines; rest = v.rest }

-- a text in which no byte of a value is left: a newline ends it, or the end of the text
abbrev pub ended_by_newline : List ℕ → Spelled
ended_by_newline rest = record { bytes = []; newlines = 1; rest = rest }

-- a value's text lasts to the next newline that isn't escaped, or to the end. The flag says that a `\` is before:
-- it makes the next byte literal, and at the end of the text it stands for itself
abbrev pub spelled : Bool → List ℕ → Spelled
spelled false [] = record { bytes = []; newlines = 0; rest = [] }
spelled true [] = record { bytes = backslash ∷ []; newlines = 0; rest = [] }
spelled true (b ∷ bs) = with_byte b (spelled false bs)
spelled false (b ∷ bs) =
    if is_newline b then ended_by_newline bs
    else if b == backslash then spelled true bs
    else with_byte b (spelled false bs)

-- a name ends at the first `=` or newline, or at the end of the text
abbrev pub ends_name : ℕ → Bool
ends_name b = b == equals || is_newline b

-- what is after a name: after `=` a value's text, else no value
abbrev pub behind_name : List ℕ → Spelled
behind_name [] = record { bytes = []; newlines = 0; rest = [] }
behind_name (b ∷ bs) = if b == equals then spelled false bs else ended_by_newline bs

-- one entry at the front of a text, and what `later` reads in the rest, which begins in the line that it is given
abbrev pub entry_first : (ℕ → List ℕ → Outcome) → ℕ → List ℕ → Outcome
entry_first later line text =
    let name = before_first ends_name text in
    let value = behind_name (drop (position_or_len ends_name text) text) in
    if length name == 0 then Err (EmptyName line)
    else with_first (record { name = name; value = some_unless_empty value.bytes; line = line }) (later (line + value.newlines) value.rest)

-- a byte that is skipped at an entry's place, or begins what is skipped there
abbrev pub is_skipped : ℕ → Bool
is_skipped b = is_blank b || is_newline b || b == hash

-- at an entry's place blanks, newlines and comments are skipped
abbrev pub skip_or_entry : (ℕ → List ℕ → Outcome) → ℕ → List ℕ → Outcome
skip_or_entry later line [] = Ok []
skip_or_entry later line (b ∷ bs) =
    if is_blank b then later line bs
    else if is_newline b then later (line + 1) bs
    else if b == hash then later (line + 1) (after_first is_newline bs)
    else entry_first later line (b ∷ bs)

-- the entries of a text that begins in this line, in at most this many steps, each of which takes a byte at least
unfoldable pub entries_within : ℕ → ℕ → List ℕ → Outcome
entries_within zero line text = Ok []
entries_within (suc steps) line text = skip_or_entry (entries_within steps) line text

-- the entries of a text that begins in this line
unfoldable pub entries_from : ℕ → List ℕ → Outcome
entries_from line text = entries_within (length text) line text

-- what a whole text is read as: a 0 byte anywhere is looked for first
abbrev pub import_of : List ℕ → Outcome
import_of text = if list_any is_zero text then Err Nul else entries_from 1 text
