-- What the readers of this crate promise each other: a reader is at a place of the source, and reports what was
-- read there and where it went on from.
use Rattle.std.specs.Prelude.{◌≡◌, ℕ, ◌+◌, ◌-◌, ◌<◌, ◌≤◌, ◌==◌, Bool, true, false, not, ◌&&◌, List, [], ◌∷◌, ◌++◌, map, Option, Some, None, is_some, Result, Ok, Err, length, take, drop}
use Rattle.std.specs.List.{flat_map}
use Rattle.std.specs.Option.{option_map}
use Rattle.hush_words.specs.Bytes.{newline, double_quote, single_quote, backslash}
use Rattle.hush_words.specs.Words.{Atom, Dollar, byte_atom, dollar_atom, inner_atoms, ends_word, is_in_name, is_in_braces, is_bare, is_inner, next}
use Rattle.hush_words.specs.Tokens.{Lexeme, lexeme_tokens}
use Rattle.hush_words.specs.Tokens as tokens
use Rattle.hush_words.specs.Reading.{Found, front, behind, all, braces, dollar_at, inner_at, piece_at, lexeme_at, piece_atoms_left, piece_end}
use Rattle.hush_words.specs.Words.Atom.{Plain, Quoted, Mark, Value, Status}
use Rattle.hush_words.specs.Forms.{is_plain, goes_on, name_from, assignment_from, assignment_of}
use Rattle.hush_words.specs.Parts.{Written, written, range_bytes, part_atoms}
use Rattle.hush_words.specs.Views.{kind_token}
use Rattle.hush_words.specs.Faults.{stop_at, fault_in, left_fault}
use Rattle.hush_words.specs.Ranges.{Fits, FitsSome}
use Rattle.hush_words.specs.declared.classes.Class.{Class}
use Rattle.hush_words.specs.declared.classes.Class.TheVariants as class
use Rattle.hush_words.specs.declared.faults.Fault.{Fault}
use Rattle.hush_words.specs.declared.parts.Part.{Part}
use Rattle.hush_words.specs.declared.tokens.TokenKind.{TokenKind}
use Rattle.hush_words.specs.declared.reads.PartRead.{PartRead}
use Rattle.hush_words.specs.declared.reads.InnerRead.{InnerRead}
use Rattle.hush_words.specs.declared.reads.LexemeRead.{LexemeRead}
use Rattle.hush_words.specs.declared.reads.Inside.{Inside}
use Rattle.hush_words.specs.declared.reads.Inside.TheVariants as inside
use Rattle.hush_words.specs.declared.reads.Place.{Place}
use Rattle.hush_words.specs.declared.reads.PlaceRead.{PlaceRead}
use Rattle.hush_words.specs.declared.reads.NamePlace.{NamePlace}

abbrev pub passes : Class → ℕ → Bool
passes class.Plain b = is_bare b
passes class.Inner b = is_inner b
passes class.Name b = is_in_name b
passes class.Braces b = is_in_braces b

-- the byte at the front, if it is this one
abbrev pub begins : ℕ → List ℕ → Bool
begins byte [] = false
begins byte (b ∷ bs) = b == byte

-- a byte of the source, and what is after it
abbrev pub StandsAt : List ℕ → ℕ → ℕ → Type 0
StandsAt source at b = (at < length source) × (drop at source ≡ b ∷ drop (at + 1) source)

abbrev pub ByteAt : List ℕ → ℕ → Option ℕ → Type 0
ByteAt source at None = drop at source ≡ []
ByteAt source at (Some b) = StandsAt source at b

-- the longest run of bytes that pass, from `start` to `end`
abbrev pub IsRun : (ℕ → Bool) → List ℕ → ℕ → ℕ → Type 0
IsRun test source start end =
    (start ≤ end) × (end ≤ length source) ×
    (take (end - start) (drop start source) ≡ front test (drop start source)) ×
    (drop end source ≡ behind test (drop start source))

abbrev pub dollar_read : (quoted : Bool) → Dollar × List ℕ → List Atom × List ℕ
dollar_read quoted f = (dollar_atom quoted f.0 ∷ [], f.1)

-- a part that stands for what was found, up to where that ends
abbrev pub ReadsPart : List ℕ → ℕ → (quoted : Bool) → Found Dollar → Option PartRead → Type 0
ReadsPart source at quoted f None = f ≡ None
ReadsPart source at quoted f (Some r) =
    (at ≤ r.end) × (r.end ≤ length source) ×
    (option_map (dollar_read quoted) f ≡ Some (part_atoms source r.part, drop r.end source))

-- what a `$` begins, read from the byte after it
abbrev pub ReadsDollar : List ℕ → ℕ → (quoted : Bool) → Option PartRead → Type 0
ReadsDollar source at quoted r = ReadsPart source at quoted (dollar_at (drop at source)) r

abbrev pub ReadsBraces : List ℕ → ℕ → (quoted : Bool) → Option PartRead → Type 0
ReadsBraces source at quoted r =
    ReadsPart source at quoted (braces (front is_in_braces (drop at source)) (behind is_in_braces (drop at source))) r

-- one byte is read as itself
abbrev pub ReadsByte : ℕ → (quoted : Bool) → PartRead → Type 0
ReadsByte place quoted r =
    (r.end ≡ place + 1) ×
    ((source : List ℕ) (b : ℕ) → StandsAt source place b → part_atoms source r.part ≡ byte_atom quoted b ∷ [])

-- what is left to read between double quotes, and where that ends
unfoldable pub inner_left : List ℕ → List Atom
inner_left text = flat_map inner_atoms (all inner_at text).0

unfoldable pub inner_end : List ℕ → List ℕ
inner_end text = (all inner_at text).1

abbrev pub optional_atoms : List ℕ → Option Part → List Atom
optional_atoms source None = []
optional_atoms source (Some part) = part_atoms source part

abbrev pub ReadsInner : List ℕ → ℕ → Option InnerRead → Type 0
ReadsInner source at None = inner_at (drop at source) ≡ None
ReadsInner source at (Some r) =
    (at < r.end) × (r.end ≤ length source) ×
    (inner_left (drop at source) ≡ optional_atoms source r.part ++ inner_left (drop r.end source)) ×
    (inner_end (drop at source) ≡ inner_end (drop r.end source))

-- what is wrong with what is at a place of a word
abbrev pub StopsAt : List ℕ → ℕ → Fault → Type 0
StopsAt source at f = option_map (fault_in source) (stop_at (drop at source)) ≡ Some f

-- one piece, up to where it ends
abbrev pub ReadsPiece : List ℕ → ℕ → Result ℕ Fault → Type 0
ReadsPiece source at (Ok end) =
    (at < end) × (end ≤ length source) × (option_map (λ f. f.1) (piece_at (drop at source)) ≡ Some (drop end source))
ReadsPiece source at (Err f) = (piece_at (drop at source) ≡ None) × StopsAt source at f

-- a part between double quotes is one of this source
abbrev pub FitsInner : List ℕ → Option InnerRead → Type 0
FitsInner source None = Unit {0}
FitsInner source (Some r) = FitsSome source r.part

-- the pieces at a place; no value if the word ends, a fault if something else is there
abbrev pub ReadsPieces : List ℕ → ℕ → Result (Option ℕ) Fault → Type 0
ReadsPieces source at (Ok (Some end)) =
    (at < end) × (end ≤ length source) × (is_some (piece_at (drop at source)) ≡ true) ×
    (piece_end (drop end source) ≡ piece_end (drop at source))
ReadsPieces source at (Ok None) = (piece_at (drop at source) ≡ None) × (next ends_word (drop at source) ≡ true)
ReadsPieces source at (Err f) = (piece_at (drop at source) ≡ None) × (next ends_word (drop at source) ≡ false) × StopsAt source at f

-- where pieces end, there is no byte that stands for itself
abbrev pub EndsPlain : List ℕ → Result (Option ℕ) Fault → Type 0
EndsPlain source (Ok (Some end)) = next (λ b. not (is_bare b)) (drop end source) ≡ true
EndsPlain source (Ok None) = Unit {0}
EndsPlain source (Err f) = Unit {0}

-- what is left to read of a word from inside a pair of quotes, or from outside of them
abbrev pub atoms_left : Inside → List ℕ → List Atom
atoms_left inside.Nothing text = piece_atoms_left text
atoms_left inside.Single text =
    map Quoted (front (λ b. not (b == single_quote)) text) ++ piece_atoms_left (drop 1 (behind (λ b. not (b == single_quote)) text))
atoms_left inside.Double text = inner_left text ++ piece_atoms_left (drop 1 (inner_end text))

-- the pair of quotes is closed
abbrev pub Closes : Inside → List ℕ → Type 0
Closes inside.Nothing text = Unit {0}
Closes inside.Single text = begins single_quote (behind (λ b. not (b == single_quote)) text) ≡ true
Closes inside.Double text = begins double_quote (inner_end text) ≡ true

abbrev pub place_in : Inside → ℕ → Place
place_in inside at = record { at = at; inside = inside }

-- a step through a word: a part, or no part for what is passed over, and where it goes on; no value if the word ends
abbrev pub Steps : List ℕ → Place → Option PlaceRead → Type 0
Steps source p None = atoms_left p.inside (drop p.at source) ≡ []
Steps source p (Some r) =
    (p.at < r.next.at) × (r.next.at ≤ length source) × Closes r.next.inside (drop r.next.at source) × FitsSome source r.part ×
    (atoms_left p.inside (drop p.at source) ≡ optional_atoms source r.part ++ atoms_left r.next.inside (drop r.next.at source))

-- the part that comes next, and where the word goes on; no value if no part is left
abbrev pub StepsTo : List ℕ → Place → Option (Part × Place) → Type 0
StepsTo source p None = atoms_left p.inside (drop p.at source) ≡ []
StepsTo source p (Some r) =
    (p.at < r.1.at) × (r.1.at ≤ length source) × Closes r.1.inside (drop r.1.at source) × Fits source r.0 ×
    (atoms_left p.inside (drop p.at source) ≡ part_atoms source r.0 ++ atoms_left r.1.inside (drop r.1.at source))

abbrev pub optional_token : Written → Option TokenKind → List tokens.Token
optional_token text None = []
optional_token text (Some kind) = kind_token text kind ∷ []

abbrev pub lexeme_read : Lexeme × List ℕ → List tokens.Token × List ℕ
lexeme_read f = (lexeme_tokens f.0, f.1)

-- a lexeme, up to where it ends
abbrev pub ReadsLexeme : List ℕ → ℕ → Result LexemeRead Fault → Type 0
ReadsLexeme source at (Ok r) =
    (at < r.end) × (r.end ≤ length source) ×
    (option_map lexeme_read (lexeme_at (drop at source)) ≡ Some (optional_token (written source) r.kind, drop r.end source))
ReadsLexeme source at (Err f) = (lexeme_at (drop at source) ≡ None) × (left_fault source (drop at source) ≡ Some f)

-- there is a first atom, and it isn't a plain byte
abbrev pub begins_otherwise : List Atom → Bool
begins_otherwise [] = false
begins_otherwise (Plain b ∷ atoms) = false
begins_otherwise (Quoted b ∷ atoms) = true
begins_otherwise (Mark ∷ atoms) = true
begins_otherwise (Value n q ∷ atoms) = true
begins_otherwise (Status q ∷ atoms) = true

-- plain bytes alone, and these; or else no plain byte at the front
abbrev pub ArePlain : List Atom → Option (List ℕ) → Type 0
ArePlain atoms None = begins_otherwise atoms ≡ true
ArePlain atoms (Some bytes) = atoms ≡ map Plain bytes

-- the assignment of a name that has begun so
abbrev pub behind_front : List ℕ → Option (List ℕ × List Atom) → Option (List ℕ × List Atom)
behind_front front f = option_map (λ a. (front ++ a.0, a.1)) f

-- what a text has left to be, after these atoms
abbrev pub PlainRest : List Atom → List ℕ → Option (List ℕ) → Type 0
PlainRest atoms text None = (more : List Atom) → is_plain text (atoms ++ more) ≡ false
PlainRest atoms text (Some rest) = (more : List Atom) → is_plain text (atoms ++ more) ≡ is_plain rest more

abbrev pub behind_name : List ℕ → Option (List ℕ) → Option (List ℕ)
behind_name front n = option_map (λ m. front ++ m) n

-- atoms that go on with a name by these bytes, whatever is after them
abbrev pub GoesOn : (begun : Bool) → List ℕ → (now : Bool) → Type 0
GoesOn begun bytes now =
    ((more : List Atom) → name_from begun (map Plain bytes ++ more) ≡ behind_name bytes (name_from now more)) ×
    ((more : List Atom) → assignment_from begun (map Plain bytes ++ more) ≡ behind_front bytes (assignment_from now more))

-- a range that is read as these plain bytes, whatever is after it
abbrev pub ReadsPlain : List ℕ → List ℕ → Type 0
ReadsPlain range bytes = (rest : List ℕ) → piece_atoms_left (range ++ rest) ≡ map Plain bytes ++ piece_atoms_left rest

-- a place where nothing goes on with a name that has begun or not
abbrev pub NameStops : (begun : Bool) → List ℕ → Type 0
NameStops begun [] = Unit {0}
NameStops begun (b ∷ bs) = (goes_on begun b ≡ false) × ((b == backslash) && begins newline bs ≡ false)

-- a step through a name; no value if it doesn't go on
abbrev pub NameStep : List ℕ → NamePlace → Option NamePlace → Type 0
NameStep source p None = NameStops p.begun (drop p.at source)
NameStep source p (Some q) =
    (p.at < q.at) × (q.at ≤ length source) ×
    (bytes : List ℕ) × ReadsPlain (range_bytes source p.at q.at) bytes × GoesOn p.begun bytes q.begun

-- the name at a place, as far as it goes
abbrev pub NameFrom : List ℕ → ℕ → NamePlace → Type 0
NameFrom source start p =
    (start ≤ p.at) × NameStops p.begun (drop p.at source) ×
    (bytes : List ℕ) × ReadsPlain (range_bytes source start p.at) bytes × GoesOn false bytes p.begun

-- the `=` of an assignment
abbrev pub SplitsAt : List ℕ → ℕ → Option ℕ → Type 0
SplitsAt source start None = assignment_of (piece_atoms_left (drop start source)) ≡ None
SplitsAt source start (Some at) =
    (start ≤ at) × (at < length source) × (name : List ℕ) × (piece_atoms_left (range_bytes source start at) ≡ map Plain name) ×
    (assignment_of (piece_atoms_left (drop start source)) ≡ Some (name, piece_atoms_left (drop (at + 1) source)))
