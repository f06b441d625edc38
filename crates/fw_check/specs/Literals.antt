-- Words without a substitution, as texts, and the names in others (docs/check.md).
use Rattle.std.specs.Prelude.{ℕ, Bool, true, false, List, [], ◌∷◌, Option, Some, None, option_map, if◌then◌else◌}
use Rattle.std.specs.List.{list_any}
use Rattle.std.specs.Str.{bytes_eq}
use Rattle.hush_words.specs.Words.{Atom}
use Rattle.hush_words.specs.Words.Atom.{Plain, Quoted, Mark, Value, Status}

-- the bytes of a word without a substitution
abbrev pub literal_of : List Atom → Option (List ℕ)
literal_of [] = Some []
literal_of (Plain b ∷ atoms) = option_map (λ bs. b ∷ bs) (literal_of atoms)
literal_of (Quoted b ∷ atoms) = option_map (λ bs. b ∷ bs) (literal_of atoms)
literal_of (Mark ∷ atoms) = literal_of atoms
literal_of (Value name quoted ∷ atoms) = None
literal_of (Status quoted ∷ atoms) = None

-- what a word begins with: the bytes before its first substitution, and whether it has none
pub record Front : Type 0 where
  pub bytes : List ℕ
  pub whole : Bool

abbrev pub front_with : ℕ → Front → Front
front_with b front = record { bytes = b ∷ front.bytes; whole = front.whole }

abbrev pub front_of : List Atom → Front
front_of [] = record { bytes = []; whole = true }
front_of (Plain b ∷ atoms) = front_with b (front_of atoms)
front_of (Quoted b ∷ atoms) = front_with b (front_of atoms)
front_of (Mark ∷ atoms) = front_of atoms
front_of (Value name quoted ∷ atoms) = record { bytes = []; whole = false }
front_of (Status quoted ∷ atoms) = record { bytes = []; whole = false }

-- the whole word, if it has no substitution
abbrev pub whole_of : Front → Option (List ℕ)
whole_of front = if front.whole then Some front.bytes else None

-- the names of a word's substitutions
abbrev pub substituted : List Atom → List (List ℕ)
substituted [] = []
substituted (Plain b ∷ atoms) = substituted atoms
substituted (Quoted b ∷ atoms) = substituted atoms
substituted (Mark ∷ atoms) = substituted atoms
substituted (Value name quoted ∷ atoms) = name ∷ substituted atoms
substituted (Status quoted ∷ atoms) = substituted atoms

-- a `$?`, and quotes
abbrev pub is_shown : Atom → Bool
is_shown (Plain b) = false
is_shown (Quoted b) = false
is_shown Mark = false
is_shown (Value name quoted) = false
is_shown (Status quoted) = true

abbrev pub is_mark : Atom → Bool
is_mark (Plain b) = false
is_mark (Quoted b) = false
is_mark Mark = true
is_mark (Value name quoted) = false
is_mark (Status quoted) = false

-- a word without a substitution that is this text
abbrev pub is_called : List ℕ → Option (List ℕ) → Bool
is_called text None = false
is_called text (Some bytes) = bytes_eq text bytes

abbrev pub is_word_of : List (List ℕ) → List ℕ → Bool
is_word_of texts word = list_any (λ text. bytes_eq text word) texts
