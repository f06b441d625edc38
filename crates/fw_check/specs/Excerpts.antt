-- The line of a script in which something is found, and its place there (docs/check.md).
use Rattle.std.specs.Prelude.{ℕ, zero, suc, ◌==◌, ◌+◌, ◌-◌, ◌||◌, not, min, nat_lt, Bool, false, List, [], ◌∷◌, ◌++◌, map, replicate, get_or, length, codes, Option, Some, None, if◌then◌else◌}
use Rattle.hush_words.specs.Parts.{range_bytes}
use Rattle.fw_check.specs.declared.excerpts.Spot as spots

-- a place in a text, of which so many bytes are before it
pub record Spot : Type 0 where
  pub text : List ℕ
  pub count : ℕ

-- a line ends with a newline, and where the text ends
abbrev pub ends_line : List ℕ → ℕ → Bool
ends_line text at = get_or text at 10 == 10

-- where what is shown begins: in the same line, at most so many bytes before a place
abbrev pub shown_from : (most : ℕ) → List ℕ → (at : ℕ) → ℕ
shown_from zero text at = at
shown_from (suc most) text zero = zero
shown_from (suc most) text (suc at) = if ends_line text at then suc at else shown_from most text at

-- where it ends: in the same line, at most so many bytes behind a place
abbrev pub shown_to : (most : ℕ) → List ℕ → (at : ℕ) → ℕ
shown_to zero text at = at
shown_to (suc most) text at = if ends_line text at then at else shown_to most text (suc at)

-- something of the line is before this place
abbrev pub is_cut_before : List ℕ → ℕ → Bool
is_cut_before text zero = false
is_cut_before text (suc at) = not (ends_line text at)

-- a tab is shown as a space, and what can't be printed as `?`
abbrev pub shown_byte : ℕ → ℕ
shown_byte b = if b == 9 then 32 else if nat_lt b 32 || nat_lt 126 b then 63 else b

abbrev pub dots : Bool → List ℕ
dots cut = if cut then codes "..." else []

-- between these places of a text
abbrev pub shown_line : List ℕ → (from to : ℕ) → List ℕ
shown_line text from to = dots (is_cut_before text from) ++ map shown_byte (range_bytes text from to) ++ dots (not (ends_line text to)) ++ 10 ∷ []

-- below what is shown from a place on, at this one
abbrev pub caret_line : List ℕ → (from at : ℕ) → List ℕ
caret_line text from at = replicate (length (dots (is_cut_before text from)) + (at - from)) 32 ++ codes "^\n"

unfoldable pub excerpt_at : List ℕ → (at : ℕ) → List ℕ
excerpt_at text at = shown_line text (shown_from 30 text at) (shown_to 40 text at) ++ caret_line text (shown_from 30 text at) at

abbrev pub excerpt_of : Option Spot → List ℕ
excerpt_of None = []
excerpt_of (Some s) = excerpt_at s.text (min s.count (length s.text))

-- the code's place, in this form
abbrev pub spot_view : spots.Spot → Spot
spot_view s = record { text = s.text.now; count = s.count }
