-- The parts of words lie inside their source.
use Rattle.std.specs.Prelude.{◌≡◌, ℕ, ◌≤◌, ◌<◌, List, [], ◌++◌, length, Option, Some, None}
use Rattle.hush_words.specs.Words.{Atom}
use Rattle.hush_words.specs.Parts.{part_atoms}
use Rattle.hush_words.specs.declared.parts.Span.{Span}
use Rattle.hush_words.specs.declared.parts.Part.{Part}
use Rattle.hush_words.specs.declared.parts.Part.TheVariants as part

-- a source whose places are numbers of 32 bits
abbrev pub IsShort : List ℕ → Type 0
IsShort source = length source ≤ 4294967295

-- a range of this source
abbrev pub IsWithin : List ℕ → Span → Type 0
IsWithin source s = (s.start ≤ s.end) × (s.end ≤ length source)

abbrev pub Fits : List ℕ → Part → Type 0
Fits source (part.Plain s) = IsWithin source s
Fits source (part.Quoted s) = IsWithin source s
Fits source part.Mark = Unit {0}
Fits source (part.Value s quoted) = IsWithin source s
Fits source (part.Status quoted) = Unit {0}

-- a part, if there is one, of this source
abbrev pub FitsSome : List ℕ → Option Part → Type 0
FitsSome source None = Unit {0}
FitsSome source (Some part) = Fits source part

-- the parts of a word that aren't taken yet: of this source they are ranges, these atoms they stand for, and this many
-- bytes of the word are left
pub record PartsLeft : Type 0 where
  pub source : List ℕ
  pub atoms : List Atom
  pub bytes : ℕ

-- the next part was taken, or none is left
abbrev pub TakesPart : PartsLeft → PartsLeft → Option Part → Type 0
TakesPart old new None = old.atoms ≡ []
TakesPart old new (Some part) =
    (old.atoms ≡ part_atoms old.source part ++ new.atoms) × Fits old.source part × (new.source ≡ old.source) × (new.bytes < old.bytes)
