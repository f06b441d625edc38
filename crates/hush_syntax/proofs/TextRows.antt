-- The texts of docs/scripts.md, "What surprises", read by the definitions alone, from their bytes on.
use Rattle.std.proofs.Common.{◌≡◌, ℕ, List, [], ◌∷◌, ◌++◌, map, codes, refl, Some, None}
use Rattle.hush_words.specs.Words.{Atom, is_blank, ends_word, begins_name, is_in_name, is_in_braces, follows_dollar, is_special, is_bare, is_inner, is_escaped}
use Rattle.hush_words.specs.Words.Atom.{Plain}
use Rattle.hush_words.specs.Reading.{dollar_at, inner_escape, inner_at, double_at, piece_at, passed_at, lexeme_at, tokens_of}
use Rattle.hush_words.specs.Forms.{is_plain, name_of, assignment_of}
use Rattle.hush_syntax.specs.declared.nodes.Bodies.TheVariants.{MayBeEmpty}
use Rattle.hush_syntax.specs.Keywords.{keyword_of}
use Rattle.hush_syntax.specs.Grammar.{Command, Simple, If, Elif, Else, Fi, For, While, First, End, Chains, Last, nothing}
use Rattle.hush_syntax.specs.Reading.{command, read_in, read}

abbrev word : List ℕ → List Atom
word text = map Plain text

abbrev alone : Command → Chains
alone c = Last (First c End)

-- a loop
while_row : read (codes "while a; do b c; done") ≡ Some (Some (alone (While (alone (Simple (word (codes "a") ∷ []))) (alone (Simple (word (codes "b") ∷ word (codes "c") ∷ []))))))
unfolding read tokens_of lexeme_at passed_at piece_at is_bare ends_word is_special is_blank command keyword_of is_plain name_of assignment_of begins_name is_in_name
while_row = refl

-- a body of a comment alone
comment_row : read (codes "if a; then # b" ++ 10 ∷ codes "fi") ≡ None
unfolding read tokens_of lexeme_at passed_at piece_at is_bare ends_word is_special is_blank command keyword_of is_plain name_of assignment_of begins_name is_in_name
comment_row = refl

-- a `$` before a digit, also between quotes
costs_row : read (codes "echo \"costs $5\"") ≡ None
unfolding read tokens_of lexeme_at passed_at piece_at double_at inner_at dollar_at inner_escape is_inner is_escaped follows_dollar is_in_braces is_bare ends_word is_special is_blank command keyword_of is_plain name_of assignment_of begins_name is_in_name
costs_row = refl

-- a redirection
redirected_row : read (codes "a 2>&1") ≡ None
unfolding read tokens_of lexeme_at passed_at piece_at is_bare ends_word is_special is_blank command keyword_of is_plain name_of assignment_of begins_name is_in_name
redirected_row = refl

-- a default within braces
default_row : read (codes "a ${x:-y}") ≡ None
unfolding read tokens_of lexeme_at passed_at piece_at dollar_at follows_dollar is_in_braces is_bare ends_word is_special is_blank command keyword_of is_plain name_of assignment_of begins_name is_in_name
default_row = refl

-- `[` is a word like others
bracket_row : read (codes "[ a = b ]") ≡ Some (Some (alone (Simple (word (codes "[") ∷ word (codes "a") ∷ word (codes "=") ∷ word (codes "b") ∷ word (codes "]") ∷ []))))
unfolding read tokens_of lexeme_at passed_at piece_at is_bare ends_word is_special is_blank command keyword_of is_plain name_of assignment_of begins_name is_in_name
bracket_row = refl

-- a carriage return is a byte of the word that it ends
carriage_row : read (codes "if a; then b; fi" ++ 13 ∷ 10 ∷ []) ≡ None
unfolding read tokens_of lexeme_at passed_at piece_at is_bare ends_word is_special is_blank command keyword_of is_plain name_of assignment_of begins_name is_in_name
carriage_row = refl

-- the same where bodies may be empty
empty_comment_row : read_in MayBeEmpty (codes "if a; then # b" ++ 10 ∷ codes "fi") ≡ Some (Some (alone (If (alone (Simple (word (codes "a") ∷ []))) nothing Fi)))
unfolding read_in tokens_of lexeme_at passed_at piece_at is_bare ends_word is_special is_blank command keyword_of is_plain name_of assignment_of begins_name is_in_name
empty_comment_row = refl

-- nothing after `then`, or after `else`
empty_then_row : read_in MayBeEmpty (codes "if a; then; else b; fi") ≡ Some (Some (alone (If (alone (Simple (word (codes "a") ∷ []))) nothing (Else (alone (Simple (word (codes "b") ∷ [])))))))
unfolding read_in tokens_of lexeme_at passed_at piece_at is_bare ends_word is_special is_blank command keyword_of is_plain name_of assignment_of begins_name is_in_name
empty_then_row = refl

-- `then` and `elif` side by side, where a board leaves the `if`
then_elif_row : read_in MayBeEmpty (codes "if a; then elif b; then c; fi") ≡ None
unfolding read_in tokens_of lexeme_at passed_at piece_at is_bare ends_word is_special is_blank command keyword_of is_plain name_of assignment_of begins_name is_in_name
then_elif_row = refl

-- a separator is between them
then_apart_row : read_in MayBeEmpty (codes "if a; then; elif b; then c; fi") ≡ Some (Some (alone (If (alone (Simple (word (codes "a") ∷ []))) nothing (Elif (alone (Simple (word (codes "b") ∷ []))) (alone (Simple (word (codes "c") ∷ []))) Fi))))
unfolding read_in tokens_of lexeme_at passed_at piece_at is_bare ends_word is_special is_blank command keyword_of is_plain name_of assignment_of begins_name is_in_name
then_apart_row = refl

-- `else` and `fi` side by side
empty_else_row : read_in MayBeEmpty (codes "if a; then b; else fi") ≡ Some (Some (alone (If (alone (Simple (word (codes "a") ∷ []))) (alone (Simple (word (codes "b") ∷ []))) (Else nothing))))
unfolding read_in tokens_of lexeme_at passed_at piece_at is_bare ends_word is_special is_blank command keyword_of is_plain name_of assignment_of begins_name is_in_name
empty_else_row = refl

-- separators in a loop
empty_while_row : read_in MayBeEmpty (codes "while a; do ; ; done") ≡ Some (Some (alone (While (alone (Simple (word (codes "a") ∷ []))) nothing)))
unfolding read_in tokens_of lexeme_at passed_at piece_at is_bare ends_word is_special is_blank command keyword_of is_plain name_of assignment_of begins_name is_in_name
empty_while_row = refl

-- nothing in a loop
empty_for_row : read_in MayBeEmpty (codes "for i in a; do done") ≡ Some (Some (alone (For (codes "i") (word (codes "a") ∷ []) nothing)))
unfolding read_in tokens_of lexeme_at passed_at piece_at is_bare ends_word is_special is_blank command keyword_of is_plain name_of assignment_of begins_name is_in_name
empty_for_row = refl

-- a condition has a chain
empty_condition_row : read_in MayBeEmpty (codes "if ; then a; fi") ≡ None
unfolding read_in tokens_of lexeme_at passed_at piece_at is_bare ends_word is_special is_blank command keyword_of is_plain name_of assignment_of begins_name is_in_name
empty_condition_row = refl
