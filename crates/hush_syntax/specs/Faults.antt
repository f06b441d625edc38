-- The faults of a script that its words and the parser's next token give (docs/scripts.md, "Faults").
use Rattle.std.specs.Prelude.{ℕ, Bool, true, false, List, length, Some, None, Result, Ok, Err}
use Rattle.hush_words.specs.Faults.{token_fault}
use Rattle.hush_words.specs.declared.faults.Fault.{Fault}
use Rattle.hush_words.specs.declared.faults.FaultKind as words
use Rattle.hush_words.specs.declared.faults.FaultKind.TheVariants as word
use Rattle.hush_words.specs.declared.tokens.Token.{Token}
use Rattle.hush_syntax.specs.declared.cursor.Tokens.{Tokens}
use Rattle.hush_syntax.specs.declared.syntax_fault.FaultKind.{FaultKind}
use Rattle.hush_syntax.specs.declared.syntax_fault.FaultKind.TheVariants as fault
use Rattle.hush_syntax.specs.declared.syntax_fault.SyntaxFault.{SyntaxFault}

-- the fault of a word, or of an operator, by the same name
abbrev pub word_kind : words.FaultKind → FaultKind
word_kind word.Quote = fault.Quote
word_kind word.Backslash = fault.Backslash
word_kind word.Substitution = fault.Substitution
word_kind word.Operator = fault.Operator
word_kind word.Nul = fault.Nul

abbrev pub word_fault : Fault → SyntaxFault
word_fault f = record { place = f.place; kind = word_kind f.kind }

-- what is wrong if the next token can't be here, or if there is none and something must still come
abbrev pub first_fault : Result Token SyntaxFault → SyntaxFault
first_fault (Err end) = end
first_fault (Ok t) = record { place = t.place; kind = fault.Unexpected }

abbrev pub fault_at : Tokens → SyntaxFault
fault_at tokens = first_fault tokens.next

-- what is wrong if a text of this many bytes ends and something must still come
abbrev pub missing_at : ℕ → SyntaxFault
missing_at len = record { place = len; kind = fault.Missing }

-- what is wrong where the tokens of a text end, if something must still come
unfoldable pub end_fault : List ℕ → SyntaxFault
end_fault text =
    elim (token_fault text) [
      | Some f ↦ word_fault f
      | None ↦ missing_at (length text)
    ]

-- memory was refused
abbrev pub memory_refused : SyntaxFault
memory_refused = record { place = 0; kind = fault.Memory }

-- the text ends, and nothing else is wrong
abbrev pub is_missing : FaultKind → Bool
is_missing fault.Quote = false
is_missing fault.Backslash = false
is_missing fault.Substitution = false
is_missing fault.Operator = false
is_missing fault.Unexpected = false
is_missing fault.Missing = true
is_missing fault.Nest = false
is_missing fault.Assignment = false
is_missing fault.Nul = false
is_missing fault.Memory = false
