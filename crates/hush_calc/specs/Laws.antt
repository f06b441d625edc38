-- What follows from the definitions.
use Rattle.std.specs.Prelude.{◌≡◌, ℕ, ◌<◌, Bool, List, Some}
use Rattle.hush_calc.specs.Numbers.{modulus, value_of}
use Rattle.hush_calc.specs.Hexadecimal.{hexadecimal}
use Rattle.hush_calc.specs.Test.{expression_of}
use Rattle.hush_calc.specs.Expressions.{Expression, IsExpression, IsWritten, words_of, value}

-- the text of a value is read as that value
abbrev pub HexadecimalReadsBack : Type 0
HexadecimalReadsBack = (n : ℕ) → n < modulus → value_of (hexadecimal n) ≡ n

-- the words of an expression evaluate to its value
abbrev pub ExpressionsAreRead : Type 0
ExpressionsAreRead = (e : Expression) → IsExpression e → expression_of (words_of e) ≡ Some (value e)

-- words that have a value are those of an expression that evaluates to it
abbrev pub ExpressionsAreWritten : Type 0
ExpressionsAreWritten = (words : List (List ℕ)) (v : Bool) → expression_of words ≡ Some v → IsWritten words v
