-- The examples of docs/scripts.md, "Words", read by the definitions alone.
use Rattle.std.proofs.Common.{◌≡◌, ℕ, true, false, List, [], ◌∷◌, ◌++◌, map, codes, refl, Some, None}
use Rattle.hush_words.specs.Words.{Atom, is_blank, ends_word, begins_name, is_in_name, is_in_braces, follows_dollar, is_special, is_bare, is_inner, is_escaped}
use Rattle.hush_words.specs.Words.Atom.{Plain, Quoted, Mark, Value, Status}
use Rattle.hush_words.specs.Tokens.{Token}
use Rattle.hush_words.specs.Tokens.Token.{Word, Newline, Semicolon, AndIf, OrIf}
use Rattle.hush_words.specs.Reading.{dollar_at, inner_escape, inner_at, escape_at, single_at, double_at, piece_at, passed_at, lexeme_at, tokens_of, tokens_left}
use Rattle.hush_words.specs.Forms.{is_plain, name_of, assignment_of}

abbrev plain : List ℕ → List Atom
plain bytes = map Plain bytes

abbrev quoted : List ℕ → List Atom
quoted bytes = map Quoted bytes

abbrev w : List ℕ → Token
w bytes = Word (plain bytes)

-- words and what is between them
words_row : tokens_of (codes "a b;c") ≡ Some (w (codes "a") ∷ w (codes "b") ∷ Semicolon ∷ w (codes "c") ∷ [])
unfolding tokens_of lexeme_at passed_at piece_at is_bare ends_word is_special is_blank
words_row = refl

separators_row : tokens_of (codes "a;;\n") ≡ Some (w (codes "a") ∷ Semicolon ∷ Semicolon ∷ Newline ∷ [])
unfolding tokens_of lexeme_at passed_at piece_at is_bare ends_word is_special is_blank
separators_row = refl

operators_row : tokens_of (codes "a&&b||c") ≡ Some (w (codes "a") ∷ AndIf ∷ w (codes "b") ∷ OrIf ∷ w (codes "c") ∷ [])
unfolding tokens_of lexeme_at passed_at piece_at is_bare ends_word is_special is_blank
operators_row = refl

single_and_row : tokens_of (codes "a & b") ≡ None
unfolding tokens_of lexeme_at passed_at piece_at is_bare ends_word is_special is_blank
single_and_row = refl

single_or_row : tokens_of (codes "a |") ≡ None
unfolding tokens_of lexeme_at passed_at piece_at is_bare ends_word is_special is_blank
single_or_row = refl

other_bytes_row : tokens_of (codes "test a < b") ≡ Some (w (codes "test") ∷ w (codes "a") ∷ w (codes "<") ∷ w (codes "b") ∷ [])
unfolding tokens_of lexeme_at passed_at piece_at is_bare ends_word is_special is_blank
other_bytes_row = refl

-- comments and joined lines
comment_row : tokens_of (codes "a # b\nc") ≡ Some (w (codes "a") ∷ Newline ∷ w (codes "c") ∷ [])
unfolding tokens_of lexeme_at passed_at piece_at is_bare ends_word is_special is_blank
comment_row = refl

number_sign_row : tokens_of (codes "a#b") ≡ Some (w (codes "a#b") ∷ [])
unfolding tokens_of lexeme_at passed_at piece_at is_bare ends_word is_special is_blank
number_sign_row = refl

joined_row : tokens_of (codes "i\\\nf") ≡ Some (w (codes "if") ∷ [])
unfolding tokens_of lexeme_at passed_at piece_at escape_at is_bare ends_word is_special is_blank
joined_row = refl

joined_comment_row : tokens_of (codes "\\\n#a") ≡ Some []
unfolding tokens_of lexeme_at passed_at piece_at escape_at is_bare ends_word is_special is_blank
joined_comment_row = refl

nul_row : tokens_of (codes "# a" ++ 0 ∷ []) ≡ None
unfolding tokens_of
nul_row = refl

nothing_row : tokens_of [] ≡ Some []
unfolding tokens_of
nothing_row = refl

-- `\` before a byte, and at the end
escaped_row : tokens_of (codes "a\\ b") ≡ Some (Word (Plain 97 ∷ Quoted 32 ∷ Plain 98 ∷ []) ∷ [])
unfolding tokens_of lexeme_at passed_at piece_at escape_at is_bare ends_word is_special is_blank
escaped_row = refl

last_backslash_row : tokens_of (codes "echo \\") ≡ None
unfolding tokens_of lexeme_at passed_at piece_at escape_at is_bare ends_word is_special is_blank
last_backslash_row = refl

-- quotes
single_row : tokens_of (codes "'$a\\'") ≡ Some (Word (Mark ∷ quoted (codes "$a\\")) ∷ [])
unfolding tokens_of lexeme_at passed_at piece_at single_at is_bare ends_word is_special is_blank
single_row = refl

double_row : tokens_of (codes "\"a $b\"") ≡ Some (Word (Mark ∷ Quoted 97 ∷ Quoted 32 ∷ Value (codes "b") true ∷ []) ∷ [])
unfolding tokens_of lexeme_at passed_at piece_at double_at inner_at dollar_at begins_name is_in_name is_inner is_bare ends_word is_special is_blank
double_row = refl

one_word_row : tokens_of (codes "a'b'\"$c\"") ≡ Some (Word (Plain 97 ∷ Mark ∷ Quoted 98 ∷ Mark ∷ Value (codes "c") true ∷ []) ∷ [])
unfolding tokens_of lexeme_at passed_at piece_at single_at double_at inner_at dollar_at begins_name is_in_name is_inner is_bare ends_word is_special is_blank
one_word_row = refl

empty_quotes_row : tokens_of (codes "\"\"") ≡ Some (Word (Mark ∷ []) ∷ [])
unfolding tokens_of lexeme_at passed_at piece_at double_at inner_at is_inner is_bare ends_word is_special is_blank
empty_quotes_row = refl

escaped_dollar_row : tokens_of (codes "\"\\$a\"") ≡ Some (Word (Mark ∷ quoted (codes "$a")) ∷ [])
unfolding tokens_of lexeme_at passed_at piece_at double_at inner_at inner_escape is_escaped is_inner is_bare ends_word is_special is_blank
escaped_dollar_row = refl

joined_in_quotes_row : tokens_of (codes "\"a\\\nb\"") ≡ Some (Word (Mark ∷ quoted (codes "ab")) ∷ [])
unfolding tokens_of lexeme_at passed_at piece_at double_at inner_at inner_escape is_escaped is_inner is_bare ends_word is_special is_blank
joined_in_quotes_row = refl

kept_backslash_row : tokens_of (codes "\"\\a\"") ≡ Some (Word (Mark ∷ quoted (codes "\\a")) ∷ [])
unfolding tokens_of lexeme_at passed_at piece_at double_at inner_at inner_escape is_escaped is_inner is_bare ends_word is_special is_blank
kept_backslash_row = refl

open_double_row : tokens_of (codes "echo \"a") ≡ None
unfolding tokens_of lexeme_at passed_at piece_at double_at inner_at is_inner is_bare ends_word is_special is_blank
open_double_row = refl

open_single_row : tokens_of (codes "echo 'a") ≡ None
unfolding tokens_of lexeme_at passed_at piece_at single_at is_bare ends_word is_special is_blank
open_single_row = refl

-- substitutions
name_row : tokens_of (codes "$ab-c") ≡ Some (Word (Value (codes "ab") false ∷ plain (codes "-c")) ∷ [])
unfolding tokens_of lexeme_at passed_at piece_at dollar_at begins_name is_in_name is_bare ends_word is_special is_blank
name_row = refl

braces_row : tokens_of (codes "${serial#}") ≡ Some (Word (Value (codes "serial#") false ∷ []) ∷ [])
unfolding tokens_of lexeme_at passed_at piece_at dollar_at begins_name is_in_braces is_bare ends_word is_special is_blank
braces_row = refl

other_braces_row : tokens_of (codes "${a:-b}") ≡ None
unfolding tokens_of lexeme_at passed_at piece_at dollar_at begins_name is_in_braces is_bare ends_word is_special is_blank
other_braces_row = refl

empty_braces_row : tokens_of (codes "${}") ≡ None
unfolding tokens_of lexeme_at passed_at piece_at dollar_at begins_name is_in_braces is_bare ends_word is_special is_blank
empty_braces_row = refl

status_row : tokens_of (codes "$? \"$?\"") ≡ Some (Word (Status false ∷ []) ∷ Word (Mark ∷ Status true ∷ []) ∷ [])
unfolding tokens_of lexeme_at passed_at piece_at double_at inner_at dollar_at begins_name is_inner is_bare ends_word is_special is_blank
status_row = refl

digit_row : tokens_of (codes "\"$1\"") ≡ None
unfolding tokens_of lexeme_at passed_at piece_at double_at inner_at dollar_at begins_name follows_dollar is_inner is_bare ends_word is_special is_blank
digit_row = refl

dollar_row : tokens_of (codes "a$,b") ≡ Some (w (codes "a$,b") ∷ [])
unfolding tokens_of lexeme_at passed_at piece_at dollar_at begins_name follows_dollar is_bare ends_word is_special is_blank
dollar_row = refl

-- what is before a fault
before_fault_row : tokens_left (codes "a; 'b") ≡ w (codes "a") ∷ Semicolon ∷ []
unfolding tokens_left lexeme_at passed_at piece_at single_at is_bare ends_word is_special is_blank
before_fault_row = refl

-- the forms that the grammar asks for: `if`, `'if'` and `\if`, `_a1` and `1a`, `a=b` and `a\=1`
reserved_row : is_plain (codes "if") (plain (codes "if")) ≡ true
unfolding is_plain
reserved_row = refl

quoted_reserved_row : is_plain (codes "if") (Mark ∷ quoted (codes "if")) ≡ false
unfolding is_plain
quoted_reserved_row = refl

escaped_reserved_row : is_plain (codes "if") (Quoted 105 ∷ Plain 102 ∷ []) ≡ false
unfolding is_plain
escaped_reserved_row = refl

name_of_row : name_of (plain (codes "_a1")) ≡ Some (codes "_a1")
unfolding name_of begins_name is_in_name
name_of_row = refl

no_name_row : name_of (plain (codes "1a")) ≡ None
unfolding name_of begins_name
no_name_row = refl

assignment_row : assignment_of (plain (codes "a=b")) ≡ Some (codes "a", plain (codes "b"))
unfolding assignment_of begins_name is_in_name
assignment_row = refl

escaped_assignment_row : assignment_of (Plain 97 ∷ Quoted 61 ∷ Plain 49 ∷ []) ≡ None
unfolding assignment_of begins_name is_in_name
escaped_assignment_row = refl
