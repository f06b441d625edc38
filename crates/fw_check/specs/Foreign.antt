-- Words that are written for another shell (docs/check.md).
use Rattle.std.specs.Prelude.{ℕ, ◌==◌, ◌&&◌, not, Bool, false, List, [], ◌∷◌, length, codes, Option, Some, None, if◌then◌else◌}
use Rattle.std.specs.List.{ends_with, list_any}
use Rattle.hush_words.specs.Words.{Atom}
use Rattle.hush_words.specs.Words.Atom.{Plain, Quoted, Mark, Value, Status}
use Rattle.fw_check.specs.declared.foreign.Foreign.{Foreign}
use Rattle.fw_check.specs.declared.foreign.Foreign.TheVariants as foreign

-- the bytes of a word that are in no quotes and of no substitution
abbrev pub plain_of : List Atom → List ℕ
plain_of [] = []
plain_of (Plain b ∷ atoms) = b ∷ plain_of atoms
plain_of (Quoted b ∷ atoms) = plain_of atoms
plain_of (Mark ∷ atoms) = plain_of atoms
plain_of (Value name quoted ∷ atoms) = plain_of atoms
plain_of (Status quoted ∷ atoms) = plain_of atoms

abbrev pub is_backquote : ℕ → Bool
is_backquote b = b == 96

-- `{`, something, and `}`
abbrev pub is_braced : List ℕ → Bool
is_braced [] = false
is_braced (b ∷ bs) = b == 123 && not (length bs == 1) && ends_with (λ a b. a == b) bs (codes "}")

-- as `>`, `>>` and `>/dev/null`
abbrev pub begins_redirection : List ℕ → Bool
begins_redirection [] = false
begins_redirection (b ∷ bs) = b == 62

-- by its plain bytes
abbrev pub foreign_of : List ℕ → Option Foreign
foreign_of plain =
    if list_any is_backquote plain then Some foreign.Backquotes
    else if is_braced plain then Some foreign.Braces
    else if begins_redirection plain then Some foreign.Redirection
    else None

abbrev pub foreign_sentence : Foreign → List ℕ
foreign_sentence foreign.Backquotes = codes "this shell runs nothing in backquotes"
foreign_sentence foreign.Braces = codes "these braces are a part of the word: write `${NAME}` for a value"
foreign_sentence foreign.Redirection = codes "this shell redirects nothing"
