-- The forms of a word that the grammar asks for, by its atoms (docs/scripts.md, "Grammar").
use Rattle.std.specs.Prelude.{◌≡◌, ℕ, ◌==◌, ◌&&◌, Bool, true, false, if◌then◌else◌, List, [], ◌∷◌, ◌++◌, map, Option, Some, None}
use Rattle.std.specs.Option.{option_map}
use Rattle.hush_words.specs.Bytes.{equals}
use Rattle.hush_words.specs.Words.{Atom, begins_name, is_in_name, is_name}
use Rattle.hush_words.specs.Words.Atom.{Plain, Quoted, Mark, Value, Status}

-- unquoted plain bytes alone that are this text, as in a reserved word and `in`
abbrev pub IsPlain : (text : List ℕ) → List Atom → Type 0
IsPlain text atoms = atoms ≡ map Plain text

-- unquoted plain bytes alone that are a name, as after `for`
abbrev pub IsNameWord : (name : List ℕ) → List Atom → Type 0
IsNameWord name atoms = (is_name name ≡ true) × IsPlain name atoms

-- unquoted plain bytes at the front that are a name and `=`, and what is after them
abbrev pub IsAssignment : (name : List ℕ) → (value : List Atom) → List Atom → Type 0
IsAssignment name value atoms = (is_name name ≡ true) × (atoms ≡ map Plain name ++ Plain equals ∷ value)

-- the same from the word's side: each is the one that the law of this crate gives it

unfoldable pub is_plain : (text : List ℕ) → List Atom → Bool
is_plain [] [] = true
is_plain [] (a ∷ atoms) = false
is_plain (t ∷ text) [] = false
is_plain (t ∷ text) (Plain b ∷ atoms) = b == t && is_plain text atoms
is_plain (t ∷ text) (Quoted b ∷ atoms) = false
is_plain (t ∷ text) (Mark ∷ atoms) = false
is_plain (t ∷ text) (Value n q ∷ atoms) = false
is_plain (t ∷ text) (Status q ∷ atoms) = false

-- what a name can begin with, and from then on what it can go on with
abbrev pub goes_on : (begun : Bool) → ℕ → Bool
goes_on true b = is_in_name b
goes_on false b = begins_name b

abbrev pub with_byte : {X : Type 0} → ℕ → List ℕ × X → List ℕ × X
with_byte b f = (b ∷ f.0, f.1)

abbrev pub name_from : (begun : Bool) → List Atom → Option (List ℕ)
name_from begun [] = if begun then Some [] else None
name_from begun (Plain b ∷ atoms) = if goes_on begun b then option_map (λ n. b ∷ n) (name_from true atoms) else None
name_from begun (Quoted b ∷ atoms) = None
name_from begun (Mark ∷ atoms) = None
name_from begun (Value n q ∷ atoms) = None
name_from begun (Status q ∷ atoms) = None

-- the name that a word is, if it is one
unfoldable pub name_of : List Atom → Option (List ℕ)
name_of atoms = name_from false atoms

abbrev pub value_from : (begun : Bool) → ℕ → List Atom → Option (List ℕ × List Atom)
value_from begun b atoms = if begun && b == equals then Some ([], atoms) else None

abbrev pub assignment_from : (begun : Bool) → List Atom → Option (List ℕ × List Atom)
assignment_from begun [] = None
assignment_from begun (Plain b ∷ atoms) =
    if goes_on begun b then option_map (with_byte b) (assignment_from true atoms) else value_from begun b atoms
assignment_from begun (Quoted b ∷ atoms) = None
assignment_from begun (Mark ∷ atoms) = None
assignment_from begun (Value n q ∷ atoms) = None
assignment_from begun (Status q ∷ atoms) = None

-- the name and the value that a word assigns, if it has that form
unfoldable pub assignment_of : List Atom → Option (List ℕ × List Atom)
assignment_of atoms = assignment_from false atoms

-- a name as a word of its own, and the value
abbrev pub split_of : List Atom → Option (Option (List ℕ) × List Atom)
split_of atoms = option_map (λ f. (Some f.0, f.1)) (assignment_of atoms)
