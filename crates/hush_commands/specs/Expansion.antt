-- What words are expanded to (docs/runs.md, "Expansion").
use Rattle.std.specs.Prelude.{ℕ, suc, ◌==◌, ◌||◌, ◌&&◌, Bool, true, false, not, nat_le, if◌then◌else◌, List, [], ◌∷◌, ◌++◌, map, filter, decimal, Option, Some, None, unwrap_or}
use Rattle.std.specs.List.{flat_map, list_all}
use Rattle.std.specs.Option.{option_or}
use Rattle.std.specs.FinMap.{get}
use Rattle.envimg_core.specs.Environment.{Environment}
use Rattle.hush_words.specs.Words.{Atom}
use Rattle.hush_words.specs.Words.Atom.{Plain, Quoted, Value, Status, Mark as MarkAtom}

-- what words are expanded with: the variables of the environment, the local ones, and the status
pub record Known : Type 0 where
  pub env : Environment
  pub locals : Environment
  pub status : ℕ

-- what a word is written as
pub data Item : Type 0 where
  Byte : ℕ → Item
  Split : ℕ → Item  -- a blank of an unquoted substitution
  Mark : Item  -- a pair of quotes

-- space, tab and newline
abbrev pub splits : ℕ → Bool
splits b = b == 32 || b == 9 || b == 10

-- the value of a name: the environment's, else the local variable's, else nothing
abbrev pub value_in : Known → List ℕ → List ℕ
value_in known name = unwrap_or (option_or (get known.env name) (get known.locals name)) []

-- the items of a substituted text
abbrev pub substituted : (quoted : Bool) → List ℕ → List Item
substituted quoted bs = map (λ b. if not quoted && splits b then Split b else Byte b) bs

abbrev pub atom_items : Known → Atom → List Item
atom_items known (Plain b) = Byte b ∷ []
atom_items known (Quoted b) = Byte b ∷ []
atom_items known MarkAtom = Mark ∷ []
atom_items known (Value name quoted) = substituted quoted (value_in known name)
atom_items known (Status quoted) = substituted quoted (decimal known.status)

-- the items of a word
abbrev pub items_of : Known → List Atom → List Item
items_of known atoms = flat_map (atom_items known) atoms

abbrev pub item_bytes : Item → List ℕ
item_bytes (Byte b) = b ∷ []
item_bytes (Split b) = b ∷ []
item_bytes Mark = []

-- the bytes of items, a splitting blank as the byte that it was
abbrev pub bytes_of : List Item → List ℕ
bytes_of is = flat_map item_bytes is

abbrev pub onto_first : Item → List (List Item) → List (List Item)
onto_first i [] = (i ∷ []) ∷ []
onto_first i (p ∷ ps) = (i ∷ p) ∷ ps

-- what is between the splitting blanks
abbrev pub cut : List Item → List (List Item)
cut [] = [] ∷ []
cut (Split b ∷ is) = [] ∷ cut is
cut (Byte b ∷ is) = onto_first (Byte b) (cut is)
cut (Mark ∷ is) = onto_first Mark (cut is)

abbrev pub is_there : List Item → Bool
is_there [] = false
is_there (i ∷ is) = true

-- each piece with an item is a field
unfoldable pub fields : List Item → List (List ℕ)
fields is = map bytes_of (filter is_there (cut is))

-- the items of a text that is cut at these bytes
abbrev pub cut_items : (cuts : ℕ → Bool) → List ℕ → List Item
cut_items cuts bs = map (λ b. if cuts b then Split b else Byte b) bs

-- how many items aren't marks
abbrev pub size : List Item → ℕ
size [] = 0
size (Byte b ∷ is) = suc (size is)
size (Split b ∷ is) = suc (size is)
size (Mark ∷ is) = size is

-- whether a word is within the limit
abbrev pub fits : Known → ℕ → List Atom → Bool
fits known limit word = nat_le (size (items_of known word)) limit

abbrev pub word_fields : Known → List Atom → List (List ℕ)
word_fields known word = fields (items_of known word)

-- the fields of words; no value if one of these is larger than the limit
abbrev pub expanded : Known → ℕ → List (List Atom) → Option (List (List ℕ))
expanded known limit words = if list_all (fits known limit) words then Some (flat_map (word_fields known) words) else None

-- the bytes of words that aren't cut; no value if one of these is larger than the limit
abbrev pub expanded_whole : Known → ℕ → List (List Atom) → Option (List (List ℕ))
expanded_whole known limit words = if list_all (fits known limit) words then Some (map (λ word. bytes_of (items_of known word)) words) else None

-- the fields of a word with these bytes before it; no value if the word is larger than the limit
abbrev pub expanded_after : Known → ℕ → (front : List ℕ) → List Atom → Option (List (List ℕ))
expanded_after known limit front word = if fits known limit word then Some (fields (map Byte front ++ items_of known word)) else None

-- the value of an assignment, which isn't cut; no value if it is larger than the limit
abbrev pub expanded_value : Known → ℕ → List Atom → Option (List ℕ)
expanded_value known limit word = if fits known limit word then Some (bytes_of (items_of known word)) else None
