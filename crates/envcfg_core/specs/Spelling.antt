-- What a text for import spells, without a reader: the parts that it is made of, each byte of a value with or without `\`, and how it ends.
use Rattle.std.specs.Prelude.{◌≡◌, ◌⊎◌, ℕ, ◌+◌, Bool, true, false, ◌||◌, not, List, [], ◌∷◌, ◌++◌, map, None, Ok, Err, if◌then◌else◌}
use Rattle.std.specs.List.{list_all, list_any, flat_map, count_by, AllByRecursion}
use Rattle.envimg_core.specs.Bytes.{equals}
use Rattle.envimg_core.specs.Environment.{is_name, is_zero}
use Rattle.text_parts.specs.Bytes.{hash, newline, is_blank, is_newline}
use Rattle.envcfg_core.specs.Bytes.{backslash, is_marked, some_unless_empty}
use Rattle.envcfg_core.specs.Entries.{Entry, Outcome}
use Rattle.envcfg_core.specs.declared.entry.TextFault.TheVariants.{EmptyName, Nul}
use Rattle.envcfg_core.specs.Export.{is_unreadable}

-- a byte of a value, and whether `\` is before it
pub record SpelledByte : Type 0 where
  pub byte : ℕ
  pub escaped : Bool

abbrev pub byte_text : SpelledByte → List ℕ
byte_text b = if b.escaped then backslash ∷ b.byte ∷ [] else b.byte ∷ []

-- `\` and a newline need the `\`; before any other byte it may be there too
abbrev pub is_spelling : SpelledByte → Bool
is_spelling b = b.escaped || not (is_marked b.byte)

abbrev pub value_text : List SpelledByte → List ℕ
value_text value = flat_map byte_text value

abbrev pub value_of : List SpelledByte → List ℕ
value_of value = map (λ b. b.byte) value

-- what a text is made of, each but a blank with the newline that ends it
pub data Part : Type 0 where
  Blank : ℕ → Part
  EmptyLine : Part
  Comment : List ℕ → Part
  Deletion : List ℕ → Part
  Assignment : List ℕ → List SpelledByte → Part

abbrev pub part_text : Part → List ℕ
part_text (Blank b) = b ∷ []
part_text EmptyLine = newline ∷ []
part_text (Comment text) = hash ∷ (text ++ newline ∷ [])
part_text (Deletion name) = name ++ newline ∷ []
part_text (Assignment name value) = name ++ equals ∷ (value_text value ++ newline ∷ [])

-- the name is a name, and one that an import reads
pub record IsReadable (name : List ℕ) : Type 0 where
  pub name_is : is_name name ≡ true
  pub readable : is_unreadable name ≡ false

abbrev pub IsPart : Part → Type 0
IsPart (Blank b) = is_blank b ≡ true
IsPart EmptyLine = Unit {0}
IsPart (Comment text) = list_any is_newline text ≡ false
IsPart (Deletion name) = IsReadable name
IsPart (Assignment name value) = IsReadable name × (list_all is_spelling value ≡ true)

-- the entry that an assignment is: without a byte in its value it deletes
abbrev pub assigned : ℕ → List ℕ → List ℕ → Entry
assigned line name value = record { name = name; value = some_unless_empty value; line = line }

abbrev pub deleted : ℕ → List ℕ → Entry
deleted line name = record { name = name; value = None; line = line }

-- the entry that a part is, if it is one, when it begins in this line
abbrev pub part_entries : ℕ → Part → List Entry
part_entries line (Blank b) = []
part_entries line EmptyLine = []
part_entries line (Comment text) = []
part_entries line (Deletion name) = deleted line name ∷ []
part_entries line (Assignment name value) = assigned line name (value_of value) ∷ []

-- the line after it
abbrev pub line_after : ℕ → Part → ℕ
line_after line (Blank b) = line
line_after line EmptyLine = line + 1
line_after line (Comment text) = line + 1
line_after line (Deletion name) = line + 1
line_after line (Assignment name value) = line + (count_by is_newline (value_of value) + 1)

-- how a text ends after its parts: there, or in a line without a newline, perhaps with a `\` that stands for itself
pub data Ending : Type 0 where
  BehindParts : Ending
  InComment : List ℕ → Ending
  InName : List ℕ → Ending
  InValue : List ℕ → List SpelledByte → Ending
  AtBackslash : List ℕ → List SpelledByte → Ending

abbrev pub ending_text : Ending → List ℕ
ending_text BehindParts = []
ending_text (InComment text) = hash ∷ text
ending_text (InName name) = name
ending_text (InValue name value) = name ++ equals ∷ value_text value
ending_text (AtBackslash name value) = name ++ equals ∷ (value_text value ++ backslash ∷ [])

abbrev pub IsEnding : Ending → Type 0
IsEnding BehindParts = Unit {0}
IsEnding (InComment text) = list_any is_newline text ≡ false
IsEnding (InName name) = IsReadable name
IsEnding (InValue name value) = IsReadable name × (list_all is_spelling value ≡ true)
IsEnding (AtBackslash name value) = IsReadable name × (list_all is_spelling value ≡ true)

abbrev pub ending_entries : ℕ → Ending → List Entry
ending_entries line BehindParts = []
ending_entries line (InComment text) = []
ending_entries line (InName name) = deleted line name ∷ []
ending_entries line (InValue name value) = assigned line name (value_of value) ∷ []
ending_entries line (AtBackslash name value) = assigned line name (value_of value ++ backslash ∷ []) ∷ []

-- the text, and the entries that it spells, the first part of which begins in this line
abbrev pub spelled_text : List Part → Ending → List ℕ
spelled_text parts ending = flat_map part_text parts ++ ending_text ending

abbrev pub spelled_entries : ℕ → List Part → Ending → List Entry
spelled_entries line [] ending = ending_entries line ending
spelled_entries line (part ∷ parts) ending = part_entries line part ++ spelled_entries (line_after line part) parts ending

-- the line after all these parts, the first of which begins in this line
abbrev pub line_after_all : ℕ → List Part → ℕ
line_after_all line [] = line
line_after_all line (part ∷ parts) = line_after_all (line_after line part) parts

-- a text with a byte 0 spells nothing
abbrev pub HoldsZero : List ℕ → Outcome → Type 0
HoldsZero text outcome = (list_any is_zero text ≡ true) × (outcome ≡ Err Nul)

-- a text made of parts and an ending spells their entries
abbrev pub SpellsEntries : List ℕ → Outcome → Type 0
SpellsEntries text outcome =
    (parts : List Part) × (ending : Ending) × AllByRecursion IsPart parts × IsEnding ending
    × (text ≡ spelled_text parts ending) × (outcome ≡ Ok (spelled_entries 1 parts ending))

-- after some parts `=` is where an entry begins: its name is empty, and what follows isn't looked at
abbrev pub LacksName : List ℕ → Outcome → Type 0
LacksName text outcome =
    (parts : List Part) × (rest : List ℕ) × AllByRecursion IsPart parts
    × (text ≡ flat_map part_text parts ++ equals ∷ rest) × (outcome ≡ Err (EmptyName (line_after_all 1 parts)))

-- what a text spells: entries, each with the line in which it begins, or its one fault
abbrev pub Spells : List ℕ → Outcome → Type 0
Spells text outcome =
    HoldsZero text outcome ⊎ ((list_any is_zero text ≡ false) × (SpellsEntries text outcome ⊎ LacksName text outcome))
