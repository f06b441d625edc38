-- What follows from the definitions of words and tokens.
use Rattle.std.specs.Prelude.{◌≡◌, ℕ, true, List, ◌++◌, Some, ◌↔◌}
use Rattle.std.specs.List.{flat_map}
use Rattle.hush_words.specs.Words.{Atom, FitAll}
use Rattle.hush_words.specs.Tokens.{Token, Lexeme, lexeme_text, lexeme_tokens, FitsLexeme, HasTokens}
use Rattle.hush_words.specs.Reading.{tokens_of, tokens_left, lexeme_end}
use Rattle.hush_words.specs.Forms.{IsPlain, IsNameWord, IsAssignment, is_plain, name_of, assignment_of}

-- the tokens that are read from a text are exactly those that it has
abbrev pub TokensAreRead : Type 0
TokensAreRead = (text : List ℕ) (tokens : List Token) → (tokens_of text ≡ Some tokens) ↔ HasTokens text tokens

-- a text has at most one list of tokens
abbrev pub OneTokenList : Type 0
OneTokenList = (text : List ℕ) (tokens others : List Token) → HasTokens text tokens → HasTokens text others → tokens ≡ others

-- what is read before a fault: the tokens of the lexemes at the front of the text, up to where none can be
abbrev pub FrontIsRead : Type 0
FrontIsRead =
    (text : List ℕ) →
    (ls : List Lexeme) × (rest : List ℕ) × (text ≡ flat_map lexeme_text ls ++ rest) × FitAll lexeme_text FitsLexeme ls rest ×
    ((l : Lexeme) (after : List ℕ) → rest ≡ lexeme_text l ++ after → FitsLexeme l after → ⊥) ×
    (tokens_left text ≡ flat_map lexeme_tokens ls) × (lexeme_end text ≡ rest)

-- a word's form is reported exactly
abbrev pub PlainIsTold : Type 0
PlainIsTold = (text : List ℕ) (atoms : List Atom) → (is_plain text atoms ≡ true) ↔ IsPlain text atoms

abbrev pub NameIsTold : Type 0
NameIsTold = (name : List ℕ) (atoms : List Atom) → (name_of atoms ≡ Some name) ↔ IsNameWord name atoms

abbrev pub AssignmentIsTold : Type 0
AssignmentIsTold =
    (name : List ℕ) (value atoms : List Atom) → (assignment_of atoms ≡ Some (name, value)) ↔ IsAssignment name value atoms
