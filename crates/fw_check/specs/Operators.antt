-- Words of `test` in the place of an operator that aren't one (docs/check.md).
use Rattle.std.specs.Prelude.{ℕ, ◌==◌, ◌&&◌, ◌||◌, Bool, true, false, not, List, [], ◌∷◌, length, codes, map, Option, Some, None, if◌then◌else◌}
use Rattle.std.specs.Char.{is_ascii_alphabetic}
use Rattle.std.specs.List.{list_all}
use Rattle.std.specs.Str.{bytes_eq}
use Rattle.hush_calc.specs.Test.{comparisons, spelling}
use Rattle.hush_commands.specs.declared.shell.Shell.{Shell}
use Rattle.hush_commands.specs.declared.shell.Shell.TheVariants.{Strict, Board}
use Rattle.fw_check.specs.Literals.{is_word_of}
use Rattle.fw_check.specs.Targets.{Target, target}

abbrev pub begins_option : List ℕ → Bool
begins_option [] = false
begins_option (b ∷ []) = false
begins_option (b ∷ c ∷ bs) = b == 45 && is_ascii_alphabetic c

abbrev pub is_sign : ℕ → Bool
is_sign b = b == 61 || b == 33 || b == 60 || b == 62 || b == 126

-- written as operators are: a `-` and a letter first, or only bytes of `=!<>~`
abbrev pub looks_like_operator : List ℕ → Bool
looks_like_operator bytes = begins_option bytes || not (length bytes == 0) && list_all is_sign bytes

abbrev pub is_comparison : List ℕ → Bool
is_comparison word = is_word_of (map spelling comparisons) word

abbrev pub is_joint : List ℕ → Bool
is_joint word = is_word_of (codes "-a" ∷ codes "-o" ∷ []) word

-- what is expected of the next word, if the words before it are read as an expression, each as one field
pub data Expected : Type 0 where
  ATerm : Expected  -- `!`, `-n`, `-z`, or the first word of a comparison
  Operator : (first : Option Target) → Expected  -- that of a comparison; its first word may look like an operator itself
  Operand : Expected
  Joint : Expected  -- `-a` or `-o`
  Joined : Expected  -- a board's: the operator of a comparison of `!`, `-a` or `-o`, else a term
  Tested : Expected  -- a board's `-n` or `-z`: the operator of a comparison of it, else the last word of the term
  Interface : Expected  -- a board's `-e`: that, or the interface, the device, and then the file as an operand
  Device : Expected
  AfterValue : Expected  -- what is behind a word with a substitution, which may be `!`, `-n` or `-z`
  Unclear : Expected  -- what is behind such a word and one that is no operator
  Nothing : Expected  -- that depends on values
  Broken : Expected  -- the words aren't an expression, for another reason than an operator
  Wrong : Target → Expected  -- this isn't an operator

-- a word that looks like an operator
abbrev pub suspect : ℕ → List ℕ → Option Target
suspect count bytes = if looks_like_operator bytes then Some (target count bytes) else None

abbrev pub ends_at : Option Target → Expected
ends_at None = Nothing
ends_at (Some t) = Wrong t

abbrev pub or_unclear : Option Target → Expected
or_unclear None = Unclear
or_unclear (Some t) = Wrong t

abbrev pub or_first : Option Target → Option Target → Expected
or_first None None = Broken
or_first None (Some t) = Wrong t
or_first (Some t) first = Wrong t

-- after the first word of a term, at this place; `None` for the bytes of a word with a substitution. On a board `-a` and
-- `-o` may be anywhere, and `-e` is an operator
abbrev pub after_strict_term : ℕ → List ℕ → Expected
after_strict_term count bytes =
    if is_word_of (codes "!" ∷ []) bytes then ATerm
    else if is_word_of (codes "-n" ∷ codes "-z" ∷ []) bytes then Operand
    else Operator (suspect count bytes)

abbrev pub after_board_term : ℕ → List ℕ → Expected
after_board_term count bytes =
    if is_word_of (codes "!" ∷ codes "-a" ∷ codes "-o" ∷ []) bytes then Joined
    else if is_word_of (codes "-n" ∷ codes "-z" ∷ []) bytes then Tested
    else if bytes_eq (codes "-e") bytes then Interface
    else Operator (suspect count bytes)

abbrev pub after_term : Shell → ℕ → Option (List ℕ) → Expected
after_term shell count None = AfterValue
after_term Strict count (Some bytes) = after_strict_term count bytes
after_term Board count (Some bytes) = after_board_term count bytes

-- after the last word of a term: a board reads the next one as if it was the first
abbrev pub after_operand : Shell → Expected
after_operand Strict = Joint
after_operand Board = ATerm

abbrev pub after_joined : Shell → ℕ → Option (List ℕ) → Expected
after_joined shell count None = AfterValue
after_joined shell count (Some bytes) = if is_comparison bytes then Operand else after_term shell count (Some bytes)

abbrev pub compared_or : Expected → Option (List ℕ) → Expected
compared_or other None = other
compared_or other (Some bytes) = if is_comparison bytes then Operand else other

-- after one more word
abbrev pub after_word : Shell → Expected → ℕ → Option (List ℕ) → Expected
after_word shell ATerm count bytes = after_term shell count bytes
after_word shell (Operator first) count None = ends_at first
after_word shell (Operator first) count (Some bytes) =
    if is_comparison bytes then Operand else or_first (suspect count bytes) first
after_word shell AfterValue count None = Nothing
after_word shell AfterValue count (Some bytes) = if is_comparison bytes then Operand else or_unclear (suspect count bytes)
after_word shell Unclear count None = Nothing
after_word shell Unclear count (Some bytes) = if is_comparison bytes || is_joint bytes then Nothing else Broken
after_word shell Operand count bytes = after_operand shell
after_word shell Joint count None = Nothing
after_word shell Joint count (Some bytes) = if is_joint bytes then ATerm else or_first (suspect count bytes) None
after_word shell Joined count bytes = after_joined shell count bytes
after_word shell Tested count bytes = compared_or (after_operand shell) bytes
after_word shell Interface count bytes = compared_or Device bytes
after_word shell Device count bytes = Operand
after_word shell Nothing count bytes = Nothing
after_word shell Broken count bytes = Broken
after_word shell (Wrong t) count bytes = Wrong t

abbrev pub wrong_in : Expected → Option Target
wrong_in ATerm = None
wrong_in (Operator first) = first
wrong_in AfterValue = None
wrong_in Unclear = None
wrong_in Operand = None
wrong_in Joint = None
wrong_in Joined = None
wrong_in Tested = None
wrong_in Interface = None
wrong_in Device = None
wrong_in Nothing = None
wrong_in Broken = None
wrong_in (Wrong t) = Some t

-- the words can't be an expression; what ends with a joint is left to the shells
abbrev pub is_broken : Expected → Bool
is_broken ATerm = false
is_broken (Operator None) = true
is_broken (Operator (Some t)) = false
is_broken AfterValue = true
is_broken Unclear = false
is_broken Operand = true
is_broken Joint = false
is_broken Joined = false
is_broken Tested = true
is_broken Interface = true
is_broken Device = true
is_broken Nothing = false
is_broken Broken = true
is_broken (Wrong t) = false
