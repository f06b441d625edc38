-- Where the tokens of a text begin, and the fault at which the reading of them stops (docs/scripts.md, "Faults").
use Rattle.std.specs.Prelude.{ℕ, ◌+◌, ◌-◌, ◌==◌, not, if◌then◌else◌, List, [], ◌∷◌, ◌++◌, map, Option, Some, None, length}
use Rattle.std.specs.Option.{option_map}
use Rattle.hush_words.specs.Bytes.{nul, double_quote, dollar, single_quote, backslash}
use Rattle.hush_words.specs.Tokens.{Token, Lexeme, lexeme_text, lexeme_tokens}
use Rattle.hush_words.specs.Reading.{front, all, inner_at, piece_end, lexeme_at, lexeme_end}
use Rattle.hush_words.specs.declared.faults.Fault.{Fault}
use Rattle.hush_words.specs.declared.faults.FaultKind.{FaultKind}
use Rattle.hush_words.specs.declared.faults.FaultKind.TheVariants as fault

-- a token, and how many bytes of the text are before its first byte
abbrev pub Placed : Type 0
Placed = ℕ × Token

-- the tokens of lexemes, of which the first begins at this place
abbrev pub placed : ℕ → List Lexeme → List Placed
placed place [] = []
placed place (l ∷ ls) = map (λ t. (place, t)) (lexeme_tokens l) ++ placed (place + length (lexeme_text l)) ls

-- the tokens that are read from what a text has left at a place, up to the first fault
unfoldable pub placed_left : ℕ → List ℕ → List Placed
placed_left place left = placed place (all lexeme_at left).0

-- the tokens that are read from a text from the left, up to the first fault, each with its place
abbrev pub placed_tokens : List ℕ → List Placed
placed_tokens text = placed_left 0 text

-- what is wrong, and the text from the byte at fault on
abbrev pub Stop : Type 0
Stop = FaultKind × List ℕ

-- between double quotes, the first of which begins a text, given what is left where they can't go on: at the end of the
-- text the quote isn't closed, and before it a `$` precedes what it can't begin
abbrev pub double_stop : List ℕ → List ℕ → Stop
double_stop text [] = (fault.Quote, text)
double_stop text (b ∷ bs) = (fault.Substitution, b ∷ bs)

-- what is wrong with a text that begins with no piece of a word, and with nothing that ends one
unfoldable pub stop_at : List ℕ → Option Stop
stop_at [] = None
stop_at (b ∷ bs) =
    if b == dollar then Some (fault.Substitution, b ∷ bs)
    else if b == backslash then Some (fault.Backslash, b ∷ bs)
    else if b == single_quote then Some (fault.Quote, b ∷ bs)
    else if b == double_quote then Some (double_stop (b ∷ bs) (all inner_at bs).1)
    else Some (fault.Operator, b ∷ bs)

-- the same as a fault of the source whose end that text is
abbrev pub fault_in : List ℕ → Stop → Fault
fault_in source stop = record { kind = stop.0; place = length source - length stop.1 }

-- what is wrong if no lexeme begins what a source has left: the pieces of a word go on up to the byte at fault
unfoldable pub left_fault : List ℕ → List ℕ → Option Fault
left_fault source left = option_map (fault_in source) (stop_at (piece_end left))

-- the fault at which the reading of a text's tokens from the left stops
abbrev pub token_fault : List ℕ → Option Fault
token_fault text = left_fault text (lexeme_end text)

-- the first byte 0, if a text has one
abbrev pub first_nul : List ℕ → Fault
first_nul text = record { kind = fault.Nul; place = length (front (λ b. not (b == nul)) text) }
