-- The same from the text's side: which lexemes, and so which tokens, a text has. The laws of this crate say that
-- these are exactly those of `HasTokens`.
use Rattle.std.specs.Prelude.{ℕ, zero, suc, ◌==◌, Bool, not, if◌then◌else◌, List, [], ◌∷◌, Option, Some, None, length}
use Rattle.std.specs.List.{flat_map}
use Rattle.std.specs.Option.{option_map}
use Rattle.hush_words.specs.Bytes.{newline, double_quote, hash, dollar, ampersand, single_quote, semicolon, question_mark, backslash, opening_brace, vertical_bar, closing_brace}
use Rattle.hush_words.specs.Words.{Atom, Dollar, Inner, Piece, piece_atoms, is_blank, ends_word, begins_name, is_in_name, is_in_braces, follows_dollar, is_bare, is_inner, is_escaped, next}
use Rattle.hush_words.specs.Words.Dollar.{Name, Braces, LastStatus, Alone}
use Rattle.hush_words.specs.Words.Inner.{Byte, Backslash, EscapedInner, JoinedInner, DollarInner}
use Rattle.hush_words.specs.Words.Piece.{Bare, Escaped, Joined, Single, Double, DollarPiece}
use Rattle.hush_words.specs.Tokens.{Token, Lexeme, opens_word, lexeme_tokens, has_no_nul}
use Rattle.hush_words.specs.Tokens.Lexeme.{WordOf, EndOfLine, SemicolonLexeme, And, Or, Blank, JoinedLine, Comment}

-- a piece at the front of a text, and the text after it
abbrev pub Found : Type 0 → Type 0
Found P = Option (P × List ℕ)

-- the longest prefix whose bytes pass, and the rest
abbrev pub front : (ℕ → Bool) → List ℕ → List ℕ
front test [] = []
front test (b ∷ bs) = if test b then b ∷ front test bs else []

abbrev pub behind : (ℕ → Bool) → List ℕ → List ℕ
behind test [] = []
behind test (b ∷ bs) = if test b then behind test bs else b ∷ bs

abbrev pub found : {P : Type 0} → P → List ℕ → Found P
found p rest = Some (p, rest)

-- one that was found, and those after it
abbrev pub many_from : {P : Type 0} → (List ℕ → List P × List ℕ) → List ℕ → Found P → List P × List ℕ
many_from more text None = ([], text)
many_from more text (Some f) = (f.0 ∷ (more f.1).0, (more f.1).1)

-- pieces as long as one is found, at most n of them, and the rest
abbrev pub many : {P : Type 0} → (List ℕ → Found P) → ℕ → List ℕ → List P × List ℕ
many at zero text = ([], text)
many at (suc n) text = many_from (many at n) text (at text)

-- all that are found: each takes at least a byte
abbrev pub all : {P : Type 0} → (List ℕ → Found P) → List ℕ → List P × List ℕ
all at text = many at (length text) text

-- what this byte closes, if it is there
abbrev pub closed : {P : Type 0} → ℕ → P → List ℕ → Found P
closed quote p [] = None
closed quote p (b ∷ bs) = if b == quote then Some (p, bs) else None

abbrev pub braces : List ℕ → List ℕ → Found Dollar
braces [] rest = None
braces (b ∷ bs) rest = closed closing_brace (Braces (b ∷ bs)) rest

-- after a `$`
unfoldable pub dollar_at : List ℕ → Found Dollar
dollar_at [] = Some (Alone, [])
dollar_at (b ∷ bs) =
    if begins_name b then Some (Name (b ∷ front is_in_name bs), behind is_in_name bs)
    else if b == opening_brace then braces (front is_in_braces bs) (behind is_in_braces bs)
    else if b == question_mark then Some (LastStatus, bs)
    else if follows_dollar b then None
    else Some (Alone, b ∷ bs)

abbrev pub as_inner : Dollar × List ℕ → Inner × List ℕ
as_inner f = (DollarInner f.0, f.1)

abbrev pub as_piece : Dollar × List ℕ → Piece × List ℕ
as_piece f = (DollarPiece f.0, f.1)

-- after a `\` between double quotes
unfoldable pub inner_escape : List ℕ → Found Inner
inner_escape [] = Some (Backslash, [])
inner_escape (b ∷ bs) =
    if is_escaped b then Some (EscapedInner b, bs)
    else if b == newline then Some (JoinedInner, bs)
    else Some (Backslash, b ∷ bs)

-- between double quotes
unfoldable pub inner_at : List ℕ → Found Inner
inner_at [] = None
inner_at (b ∷ bs) =
    if is_inner b then Some (Byte b, bs)
    else if b == dollar then option_map as_inner (dollar_at bs)
    else if b == backslash then inner_escape bs
    else None

-- after a `\`
unfoldable pub escape_at : List ℕ → Found Piece
escape_at [] = None
escape_at (b ∷ bs) = if b == newline then Some (Joined, bs) else Some (Escaped b, bs)

-- after a single quote
unfoldable pub single_at : List ℕ → Found Piece
single_at text = closed single_quote (Single (front (λ b. not (b == single_quote)) text)) (behind (λ b. not (b == single_quote)) text)

-- after a double quote
unfoldable pub double_at : List ℕ → Found Piece
double_at text = closed double_quote (Double (all inner_at text).0) (all inner_at text).1

-- in a word
unfoldable pub piece_at : List ℕ → Found Piece
piece_at [] = None
piece_at (b ∷ bs) =
    if is_bare b then Some (Bare b, bs)
    else if b == dollar then option_map as_piece (dollar_at bs)
    else if b == backslash then escape_at bs
    else if b == single_quote then single_at bs
    else if b == double_quote then double_at bs
    else None

-- what the pieces at the front stand for, as far as there are any, and, below, the text after them
unfoldable pub piece_atoms_left : List ℕ → List Atom
piece_atoms_left text = flat_map piece_atoms (all piece_at text).0

unfoldable pub piece_end : List ℕ → List ℕ
piece_end text = (all piece_at text).1

-- where no word is open
abbrev pub word_of : List Piece → List ℕ → Found Lexeme
word_of ps rest = if next ends_word rest then Some (WordOf ps, rest) else None

abbrev pub joined_line : List ℕ → Found Lexeme
joined_line [] = None
joined_line (b ∷ bs) = if b == newline then Some (JoinedLine, bs) else None

unfoldable pub passed_at : List ℕ → Found Lexeme
passed_at [] = None
passed_at (b ∷ bs) =
    if is_blank b then Some (Blank b, bs)
    else if b == newline then Some (EndOfLine, bs)
    else if b == semicolon then Some (SemicolonLexeme, bs)
    else if b == ampersand then closed ampersand And bs
    else if b == vertical_bar then closed vertical_bar Or bs
    else if b == hash then Some (Comment (front (λ k. not (k == newline)) bs), behind (λ k. not (k == newline)) bs)
    else if b == backslash then joined_line bs
    else None

unfoldable pub lexeme_at : List ℕ → Found Lexeme
lexeme_at text =
    if opens_word (all piece_at text).0 then word_of (all piece_at text).0 (all piece_at text).1 else passed_at text

abbrev pub tokens_if_whole : List Lexeme × List ℕ → Option (List Token)
tokens_if_whole (ls, []) = Some (flat_map lexeme_tokens ls)
tokens_if_whole (ls, b ∷ bs) = None

-- the tokens at the front, up to the end or to where no lexeme can be, and, below, the text after them
unfoldable pub tokens_left : List ℕ → List Token
tokens_left text = flat_map lexeme_tokens (all lexeme_at text).0

unfoldable pub lexeme_end : List ℕ → List ℕ
lexeme_end text = (all lexeme_at text).1

-- the tokens of a text, no value if it has none; a byte 0 is looked for before all else
unfoldable pub tokens_of : List ℕ → Option (List Token)
tokens_of text = if has_no_nul text then tokens_if_whole (all lexeme_at text) else None
