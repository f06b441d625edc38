-- The tokens of a script (docs/scripts.md, "Words"): a text is written as lexemes that are next to each other.
use Rattle.std.specs.Prelude.{◌≡◌, ℕ, ◌==◌, Bool, true, false, not, List, [], ◌∷◌}
use Rattle.std.specs.List.{list_all, flat_map}
use Rattle.hush_words.specs.Bytes.{nul, newline, hash, ampersand, semicolon, backslash, vertical_bar}
use Rattle.hush_words.specs.Words.{Atom, Piece, piece_text, piece_atoms, FitsPiece, FitAll, is_blank, ends_word, next}
use Rattle.hush_words.specs.Words.Piece.{Bare, Escaped, Joined, Single, Double, DollarPiece}

-- what the grammar is written in
pub data Token : Type 0 where
  Word : List Atom → Token
  Newline : Token
  Semicolon : Token
  AndIf : Token  -- `&&`
  OrIf : Token  -- `||`

-- what a text is written in: the tokens, and what is passed over where no word is open
pub data Lexeme : Type 0 where
  WordOf : List Piece → Lexeme
  EndOfLine : Lexeme
  SemicolonLexeme : Lexeme  -- `;`
  And : Lexeme
  Or : Lexeme
  Blank : ℕ → Lexeme
  JoinedLine : Lexeme  -- `\` and a newline
  Comment : List ℕ → Lexeme  -- `#` and what follows it on its line

-- a joined line opens no word, and a bare `#` begins a comment
abbrev pub opens_word : List Piece → Bool
opens_word [] = false
opens_word (Bare b ∷ ps) = not (b == hash)
opens_word (Escaped b ∷ ps) = true
opens_word (Joined ∷ ps) = false
opens_word (Single bs ∷ ps) = true
opens_word (Double is ∷ ps) = true
opens_word (DollarPiece d ∷ ps) = true

abbrev pub lexeme_text : Lexeme → List ℕ
lexeme_text (WordOf ps) = flat_map piece_text ps
lexeme_text EndOfLine = newline ∷ []
lexeme_text SemicolonLexeme = semicolon ∷ []
lexeme_text And = ampersand ∷ ampersand ∷ []
lexeme_text Or = vertical_bar ∷ vertical_bar ∷ []
lexeme_text (Blank b) = b ∷ []
lexeme_text JoinedLine = backslash ∷ newline ∷ []
lexeme_text (Comment bs) = hash ∷ bs

abbrev pub lexeme_tokens : Lexeme → List Token
lexeme_tokens (WordOf ps) = Word (flat_map piece_atoms ps) ∷ []
lexeme_tokens EndOfLine = Newline ∷ []
lexeme_tokens SemicolonLexeme = Semicolon ∷ []
lexeme_tokens And = AndIf ∷ []
lexeme_tokens Or = OrIf ∷ []
lexeme_tokens (Blank b) = []
lexeme_tokens JoinedLine = []
lexeme_tokens (Comment bs) = []

-- a word and a comment are longest runs
abbrev pub FitsLexeme : Lexeme → List ℕ → Type 0
FitsLexeme (WordOf ps) after =
    (opens_word ps ≡ true) × FitAll piece_text FitsPiece ps after × (next ends_word after ≡ true)
FitsLexeme EndOfLine after = Unit {0}
FitsLexeme SemicolonLexeme after = Unit {0}
FitsLexeme And after = Unit {0}
FitsLexeme Or after = Unit {0}
FitsLexeme (Blank b) after = is_blank b ≡ true
FitsLexeme JoinedLine after = Unit {0}
FitsLexeme (Comment bs) after = (list_all (λ b. not (b == newline)) bs ≡ true) × (next (λ b. b == newline) after ≡ true)

-- a script is bytes without 0
abbrev pub has_no_nul : List ℕ → Bool
has_no_nul text = list_all (λ b. not (b == nul)) text

-- this text has these tokens. A single `&` or `|`, an open quote, a `\` at the end and a `$` before what it can't
-- begin are in no lexeme, so a text with one of them has no tokens
abbrev pub HasTokens : List ℕ → List Token → Type 0
HasTokens text tokens =
    (has_no_nul text ≡ true) × (ls : List Lexeme) × FitAll lexeme_text FitsLexeme ls [] ×
    (text ≡ flat_map lexeme_text ls) × (tokens ≡ flat_map lexeme_tokens ls)
