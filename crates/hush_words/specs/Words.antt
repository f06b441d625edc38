-- The words of a script (docs/scripts.md, "Words"): how a part of a word is written, and what it means.
use Rattle.std.specs.Prelude.{◌≡◌, ℕ, ◌==◌, ◌||◌, ◌&&◌, Bool, true, false, not, List, [], ◌∷◌, ◌++◌, map, codes}
use Rattle.std.specs.List.{list_all, list_any, flat_map}
use Rattle.std.specs.Char.{is_ascii_alphabetic, is_ascii_digit}
use Rattle.hush_words.specs.Bytes.{tab, newline, space, double_quote, dollar, single_quote, question_mark, backslash, underscore, opening_brace, closing_brace}

-- what a word is made of, before names and the status are put in
pub data Atom : Type 0 where
  Plain : ℕ → Atom
  Quoted : ℕ → Atom
  Mark : Atom
  Value : (name : List ℕ) → (quoted : Bool) → Atom
  Status : (quoted : Bool) → Atom

abbrev pub is_one_of : List ℕ → ℕ → Bool
is_one_of set b = list_any (λ k. b == k) set

-- space and tab
unfoldable pub is_blank : ℕ → Bool
is_blank b = b == space || b == tab

-- blanks, the separators newline and `;`, and the bytes of the operators end a word
unfoldable pub ends_word : ℕ → Bool
ends_word b = is_blank b || is_one_of (newline ∷ codes ";&|") b

-- a letter or `_`
unfoldable pub begins_name : ℕ → Bool
begins_name b = is_ascii_alphabetic b || b == underscore

-- a letter, a digit or `_`
unfoldable pub is_in_name : ℕ → Bool
is_in_name b = begins_name b || is_ascii_digit b

-- what may be between `${` and `}`: all but blanks, newline and `} { $ : = ' " \`
unfoldable pub is_in_braces : ℕ → Bool
is_in_braces b = not (is_blank b || is_one_of (newline ∷ codes "}{$:='\"\\") b)

-- what makes more of a `$` before it than the byte itself: a name, `{`, `?`, a digit or one of `# @ * $ ! - (`
unfoldable pub follows_dollar : ℕ → Bool
follows_dollar b = begins_name b || is_one_of (codes "{?#@*$!-(") b || is_ascii_digit b

-- what begins a substitution, quotes or an escape: `$ ' " \`
unfoldable pub is_special : ℕ → Bool
is_special b = is_one_of (codes "$'\"\\") b

-- what stands for itself in a word: all but these and what ends it
unfoldable pub is_bare : ℕ → Bool
is_bare b = not (ends_word b || is_special b)

-- what stands for itself between double quotes: all but `" $ \`
unfoldable pub is_inner : ℕ → Bool
is_inner b = not (is_one_of (codes "\"$\\") b)

-- between double quotes `\` makes these stand for themselves: `$ " \`
unfoldable pub is_escaped : ℕ → Bool
is_escaped b = is_one_of (codes "$\"\\") b

-- a letter or `_`, then letters, digits and `_`
unfoldable pub is_name : List ℕ → Bool
is_name [] = false
is_name (b ∷ bs) = begins_name b && list_all is_in_name bs

-- one or more bytes that may be between braces
unfoldable pub is_braced_name : List ℕ → Bool
is_braced_name [] = false
is_braced_name (b ∷ bs) = is_in_braces b && list_all is_in_braces bs

-- the first byte, if there is one, passes
abbrev pub next : (ℕ → Bool) → List ℕ → Bool
next test [] = true
next test (b ∷ bs) = test b

-- what a `$` can begin
pub data Dollar : Type 0 where
  Name : List ℕ → Dollar  -- `$name`
  Braces : List ℕ → Dollar  -- `${name}`
  LastStatus : Dollar  -- `$?`
  Alone : Dollar  -- `$`, standing for itself

-- the text after the `$`
abbrev pub dollar_text : Dollar → List ℕ
dollar_text (Name n) = n
dollar_text (Braces n) = opening_brace ∷ n ++ closing_brace ∷ []
dollar_text LastStatus = question_mark ∷ []
dollar_text Alone = []

abbrev pub byte_atom : (quoted : Bool) → ℕ → Atom
byte_atom true b = Quoted b
byte_atom false b = Plain b

abbrev pub dollar_atom : (quoted : Bool) → Dollar → Atom
dollar_atom quoted (Name n) = Value n quoted
dollar_atom quoted (Braces n) = Value n quoted
dollar_atom quoted LastStatus = Status quoted
dollar_atom quoted Alone = byte_atom quoted dollar

-- it may be written so before this text: a name is the longest run
abbrev pub FitsDollar : Dollar → List ℕ → Type 0
FitsDollar (Name n) after = (is_name n ≡ true) × (next (λ b. not (is_in_name b)) after ≡ true)
FitsDollar (Braces n) after = is_braced_name n ≡ true
FitsDollar LastStatus after = Unit {0}
FitsDollar Alone after = next (λ b. not (follows_dollar b)) after ≡ true

-- one way to write a part between double quotes
pub data Inner : Type 0 where
  Byte : ℕ → Inner  -- a byte that stands for itself
  Backslash : Inner  -- a `\` that stands for itself
  EscapedInner : ℕ → Inner  -- `\$`, `\"` or `\\`
  JoinedInner : Inner  -- `\` and a newline
  DollarInner : Dollar → Inner

abbrev pub inner_text : Inner → List ℕ
inner_text (Byte b) = b ∷ []
inner_text Backslash = backslash ∷ []
inner_text (EscapedInner b) = backslash ∷ b ∷ []
inner_text JoinedInner = backslash ∷ newline ∷ []
inner_text (DollarInner d) = dollar ∷ dollar_text d

abbrev pub inner_atoms : Inner → List Atom
inner_atoms (Byte b) = Quoted b ∷ []
inner_atoms Backslash = Quoted backslash ∷ []
inner_atoms (EscapedInner b) = Quoted b ∷ []
inner_atoms JoinedInner = []
inner_atoms (DollarInner d) = dollar_atom true d ∷ []

abbrev pub FitsInner : Inner → List ℕ → Type 0
FitsInner (Byte b) after = is_inner b ≡ true
FitsInner Backslash after = next (λ b. not (is_escaped b || b == newline)) after ≡ true
FitsInner (EscapedInner b) after = is_escaped b ≡ true
FitsInner JoinedInner after = Unit {0}
FitsInner (DollarInner d) after = FitsDollar d after

-- parts that are next to each other: each fits before the text of those after it and what follows them
abbrev pub FitAll : {P : Type 0} → (P → List ℕ) → (P → List ℕ → Type 0) → List P → List ℕ → Type 0
FitAll text Fits [] after = Unit {0}
FitAll text Fits (p ∷ ps) after = Fits p (flat_map text ps ++ after) × FitAll text Fits ps after

-- one way to write a part of a word
pub data Piece : Type 0 where
  Bare : ℕ → Piece  -- a byte that stands for itself
  Escaped : ℕ → Piece  -- `\` and a byte other than newline
  Joined : Piece  -- `\` and a newline
  Single : List ℕ → Piece  -- '...'
  Double : List Inner → Piece  -- "..."
  DollarPiece : Dollar → Piece

abbrev pub piece_text : Piece → List ℕ
piece_text (Bare b) = b ∷ []
piece_text (Escaped b) = backslash ∷ b ∷ []
piece_text Joined = backslash ∷ newline ∷ []
piece_text (Single bs) = single_quote ∷ bs ++ single_quote ∷ []
piece_text (Double ps) = double_quote ∷ flat_map inner_text ps ++ double_quote ∷ []
piece_text (DollarPiece d) = dollar ∷ dollar_text d

-- each pair of quotes is also a mark
abbrev pub piece_atoms : Piece → List Atom
piece_atoms (Bare b) = Plain b ∷ []
piece_atoms (Escaped b) = Quoted b ∷ []
piece_atoms Joined = []
piece_atoms (Single bs) = Mark ∷ map Quoted bs
piece_atoms (Double ps) = Mark ∷ flat_map inner_atoms ps
piece_atoms (DollarPiece d) = dollar_atom false d ∷ []

abbrev pub FitsPiece : Piece → List ℕ → Type 0
FitsPiece (Bare b) after = is_bare b ≡ true
FitsPiece (Escaped b) after = (b == newline) ≡ false
FitsPiece Joined after = Unit {0}
FitsPiece (Single bs) after = list_all (λ b. not (b == single_quote)) bs ≡ true
FitsPiece (Double ps) after = FitAll inner_text FitsInner ps (double_quote ∷ after)
FitsPiece (DollarPiece d) after = FitsDollar d after
