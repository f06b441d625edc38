-- What the tokens of the code stand for, which token comes next, and what the sides of an assignment stand for.
use Rattle.std.specs.Prelude.{◌≡◌, ℕ, ◌+◌, ◌<◌, ◌≤◌, ◌==◌, not, List, [], ◌∷◌, Option, Some, None, Result, Ok, Err, length, drop}
use Rattle.hush_words.specs.Bytes.{equals}
use Rattle.hush_words.specs.Words.{Atom}
use Rattle.hush_words.specs.Tokens as tokens
use Rattle.hush_words.specs.Forms.{name_of}
use Rattle.hush_words.specs.Reading.{front, tokens_left, lexeme_end}
use Rattle.hush_words.specs.Faults.{placed_left, left_fault}
use Rattle.hush_words.specs.Parts.{Written, word_atoms}
use Rattle.hush_words.specs.declared.forms.Assignment.{Assignment}
use Rattle.hush_words.specs.declared.tokens.TokenKind.{TokenKind}
use Rattle.hush_words.specs.declared.tokens.TokenKind.TheVariants as kind
use Rattle.hush_words.specs.declared.tokens.TokenRead.{TokenRead}
use Rattle.hush_words.specs.declared.faults.Fault.{Fault}

abbrev pub kind_token : Written → TokenKind → tokens.Token
kind_token text (kind.Word w) = tokens.Token.Word (word_atoms text w)
kind_token text kind.Newline = tokens.Token.Newline
kind_token text kind.Semicolon = tokens.Token.Semicolon
kind_token text kind.AndIf = tokens.Token.AndIf
kind_token text kind.OrIf = tokens.Token.OrIf

-- a word begins where its token does
abbrev pub BeginsAt : ℕ → TokenKind → Type 0
BeginsAt place (kind.Word w) = w.start ≡ place
BeginsAt place kind.Newline = Unit {0}
BeginsAt place kind.Semicolon = Unit {0}
BeginsAt place kind.AndIf = Unit {0}
BeginsAt place kind.OrIf = Unit {0}

-- the token after a place where no word is open, where it begins and ends, and what is after it; or no token up to the
-- end of the text, or up to this fault
abbrev pub NextToken : Written → ℕ → Result (Option TokenRead) Fault → Type 0
NextToken text at (Ok None) =
    (tokens_left (drop at text.source) ≡ []) × (lexeme_end (drop at text.source) ≡ []) × (placed_left at (drop at text.source) ≡ [])
NextToken text at (Ok (Some read)) =
    (tokens_left (drop at text.source) ≡ kind_token text read.token.kind ∷ tokens_left (drop read.end text.source)) ×
    (lexeme_end (drop at text.source) ≡ lexeme_end (drop read.end text.source)) ×
    (at < read.end) × (read.end ≤ length text.source) ×
    (placed_left at (drop at text.source) ≡
    (read.token.place, kind_token text read.token.kind) ∷ placed_left read.end (drop read.end text.source)) ×
    BeginsAt read.token.place read.token.kind
NextToken text at (Err fault) =
    (tokens_left (drop at text.source) ≡ []) × (lexeme_end (drop at text.source) ≡ [] → ⊥) ×
    (placed_left at (drop at text.source) ≡ []) × (left_fault text.source (lexeme_end (drop at text.source)) ≡ Some fault)

-- the first `=` from a place on, or the end of the text
abbrev pub equals_place : List ℕ → ℕ → ℕ
equals_place source place = place + length (front (λ b. not (b == equals)) (drop place source))

-- behind the first `=` from a place on: where the value of an assignment begins that begins there
abbrev pub value_place : Written → ℕ → ℕ
value_place text place = equals_place text.source place + 1

-- the name begins where the assignment does, and the value behind the first `=`
abbrev pub SidesBegin : Written → ℕ → Assignment → Type 0
SidesBegin text place a = (a.name.start ≡ place) × (a.value.start ≡ value_place text place)

-- the name and the value that an assignment's words stand for
abbrev pub assignment_view : Written → Assignment → Option (List ℕ) × List Atom
assignment_view text a = (name_of (word_atoms text a.name), word_atoms text a.value)
