-- The text of an exported variable.
use Rattle.std.specs.Prelude.{◌≡◌, ℕ, ◌+◌, Bool, true, false, ◌||◌, List, [], ◌∷◌, ◌++◌, Some, if◌then◌else◌}
use Rattle.std.specs.List.{list_any, flat_map, count_by}
use Rattle.envimg_core.specs.Environment.{Pair, is_name, is_value}
use Rattle.text_parts.specs.Bytes.{begins, newline, is_newline}
use Rattle.envimg_core.specs.Bytes.{equals}
use Rattle.envcfg_core.specs.Bytes.{backslash, is_marked}
use Rattle.envcfg_core.specs.Entries.{Entry}
use Rattle.envcfg_core.specs.Import.{is_skipped}

-- `\` is put before each `\` and each newline
abbrev pub escaped_byte : ℕ → List ℕ
escaped_byte b = if is_marked b then backslash ∷ b ∷ [] else b ∷ []

abbrev pub escaped : List ℕ → List ℕ
escaped value = flat_map escaped_byte value

-- the name, `=`, the escaped value and a newline
abbrev pub exported : List ℕ → List ℕ → List ℕ
exported name value = name ++ (equals ∷ (escaped value ++ (newline ∷ [])))

-- a name that an import would not read back: it begins with what is skipped there, or a newline would end it
abbrev pub is_unreadable : List ℕ → Bool
is_unreadable name = begins is_skipped name || list_any is_newline name

-- a variable that can be exported
pub record IsExportable (p : Pair) : Type 0 where
  pub name : is_name p.0 ≡ true
  pub value : is_value p.1 ≡ true
  pub readable : is_unreadable p.0 ≡ false

-- the text of variables exported one after the other
abbrev pub exported_all : List Pair → List ℕ
exported_all pairs = flat_map (λ p. exported p.0 p.1) pairs

-- the entry that a variable is, and the line after it: each newline of its value is one more line
abbrev pub pair_entry : ℕ → Pair → Entry
pair_entry line p = record { name = p.0; value = Some p.1; line = line }

abbrev pub line_behind : ℕ → Pair → ℕ
line_behind line p = line + count_by is_newline p.1 + 1

-- the entries that such variables are, the first of which begins in this line
abbrev pub entries_of_pairs : ℕ → List Pair → List Entry
entries_of_pairs line [] = []
entries_of_pairs line (p ∷ pairs) = pair_entry line p ∷ entries_of_pairs (line_behind line p) pairs
