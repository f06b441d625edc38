-- What words and their parts, which are ranges of the source, stand for.
use Rattle.std.specs.Prelude.{ℕ, ◌-◌, List, [], ◌∷◌, map, take, drop}
use Rattle.hush_words.specs.Words.{Atom}
use Rattle.hush_words.specs.Words.Atom.{Plain, Quoted, Mark, Value, Status}
use Rattle.hush_words.specs.Reading.{piece_atoms_left}
use Rattle.hush_words.specs.declared.parts.Span.{Span}
use Rattle.hush_words.specs.declared.parts.Part.{Part}
use Rattle.hush_words.specs.declared.parts.Part.TheVariants as part
use Rattle.hush_words.specs.declared.parts.Word.{Word}

abbrev pub span_of : ℕ → ℕ → Span
span_of start end = record { start = start; end = end }

abbrev pub word_between : ℕ → ℕ → Word
word_between start end = record { start = start; end = end }

-- the bytes of a range
abbrev pub range_bytes : List ℕ → ℕ → ℕ → List ℕ
range_bytes source start end = take (end - start) (drop start source)

abbrev pub span_bytes : List ℕ → Span → List ℕ
span_bytes source s = range_bytes source s.start s.end

abbrev pub part_atoms : List ℕ → Part → List Atom
part_atoms source (part.Plain s) = map Plain (span_bytes source s)
part_atoms source (part.Quoted s) = map Quoted (span_bytes source s)
part_atoms source part.Mark = Mark ∷ []
part_atoms source (part.Value s quoted) = Value (span_bytes source s) quoted ∷ []
part_atoms source (part.Status quoted) = Status quoted ∷ []

-- a source that words are ranges of
pub record Written : Type 0 where
  pub source : List ℕ

abbrev pub written : List ℕ → Written
written source = record { source = source }

-- what a word stands for: what the pieces do that its bytes are read as
abbrev pub word_atoms : Written → Word → List Atom
word_atoms text word = piece_atoms_left (range_bytes text.source word.start word.end)
