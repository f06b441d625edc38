-- The reserved words (docs/scripts.md, "Grammar").
use Rattle.std.specs.Prelude.{ℕ, Bool, List, [], ◌∷◌, codes, find, Option, is_some}
use Rattle.hush_words.specs.Words.{Atom}
use Rattle.hush_words.specs.Forms.{is_plain}
use Rattle.hush_syntax.specs.declared.keywords.Keyword.{Keyword}
use Rattle.hush_syntax.specs.declared.keywords.Keyword.TheVariants.{If, Then, Elif, Else, Fi, For, While, Until, Do, Done}

abbrev pub spelling : Keyword → List ℕ
spelling If = codes "if"
spelling Then = codes "then"
spelling Elif = codes "elif"
spelling Else = codes "else"
spelling Fi = codes "fi"
spelling For = codes "for"
spelling While = codes "while"
spelling Until = codes "until"
spelling Do = codes "do"
spelling Done = codes "done"

abbrev pub keywords : List Keyword
keywords = If ∷ Then ∷ Elif ∷ Else ∷ Fi ∷ For ∷ While ∷ Until ∷ Do ∷ Done ∷ []

-- the reserved word that this word would be where a command may begin
unfoldable pub keyword_of : List Atom → Option Keyword
keyword_of word = find (λ keyword. is_plain (spelling keyword) word) keywords

abbrev pub is_reserved : List Atom → Bool
is_reserved word = is_some (keyword_of word)
