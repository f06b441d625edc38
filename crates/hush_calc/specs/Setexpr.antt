-- The command `setexpr` (docs/test-and-setexpr.md, "setexpr").
use Rattle.std.specs.Prelude.{ℕ, ◌+◌, ◌-◌, ◌*◌, ◌/◌, ◌%◌, ◌==◌, ◌&&◌, ◌||◌, Bool, not, bit_and, bit_or, bit_xor, List, [], ◌∷◌, codes, find, Option, Some, None, Result, Ok, Err, if◌then◌else◌}
use Rattle.std.specs.Str.{bytes_eq}
use Rattle.hush_calc.specs.declared.operator.Operator.{Operator}
use Rattle.hush_calc.specs.declared.operator.Operator.TheVariants.{And, Or, Xor, Add, Subtract, Multiply, Divide, Remainder}
use Rattle.hush_calc.specs.declared.calculation.Calculated.{Calculated}
use Rattle.hush_calc.specs.declared.calculation.SetexprFault.{SetexprFault}
use Rattle.hush_calc.specs.declared.calculation.SetexprFault.TheVariants.{WrongUse, DivisionByZero}
use Rattle.text_parts.specs.Bytes.{begins_with}
use Rattle.hush_calc.specs.Numbers.{modulus, value_of}
use Rattle.hush_calc.specs.Hexadecimal.{hexadecimal}

abbrev pub spelling : Operator → List ℕ
spelling And = codes "&"
spelling Or = codes "|"
spelling Xor = codes "^"
spelling Add = codes "+"
spelling Subtract = codes "-"
spelling Multiply = codes "*"
spelling Divide = codes "/"
spelling Remainder = codes "%"

abbrev pub operators : List Operator
operators = And ∷ Or ∷ Xor ∷ Add ∷ Subtract ∷ Multiply ∷ Divide ∷ Remainder ∷ []

-- the operator that a word is
abbrev pub operator_of : List ℕ → Option Operator
operator_of word = find (λ operator. bytes_eq (spelling operator) word) operators

-- what an operator makes of two values, no value if it divides by zero
abbrev pub computed : Operator → ℕ → ℕ → Option ℕ
computed And m n = Some (bit_and m n)
computed Or m n = Some (bit_or m n)
computed Xor m n = Some (bit_xor m n)
computed Add m n = Some ((m + n) % modulus)
computed Subtract m n = Some ((m + (modulus - n)) % modulus)
computed Multiply m n = Some ((m * n) % modulus)
computed Divide m n = if n == 0 then None else Some (m / n)
computed Remainder m n = if n == 0 then None else Some (m % n)

-- `*`, which names memory
abbrev pub star : ℕ
star = 42

-- a word that names memory is no value here
abbrev pub is_value : List ℕ → Bool
is_value word = not (begins_with star word)

-- nor are the names of the forms that work on texts, as the first value
abbrev pub is_first_value : List ℕ → Bool
is_first_value word = is_value word && not (bytes_eq (codes "sub") word || bytes_eq (codes "gsub") word || bytes_eq (codes "fmt") word)

-- the name and the text that are to be written, or why none are
abbrev pub Answer : Type 0
Answer = Result (List ℕ × List ℕ) SetexprFault

abbrev pub answer_view : Result Calculated SetexprFault → Answer
answer_view (Ok calculated) = Ok (calculated.name.now, calculated.value)
answer_view (Err fault) = Err fault

-- a value that is there is written as text
abbrev pub written : List ℕ → Option ℕ → Answer
written name None = Err DivisionByZero
written name (Some n) = Ok (name, hexadecimal n)

abbrev pub calculated : List ℕ → ℕ → Option Operator → ℕ → Answer
calculated name m None n = Err WrongUse
calculated name m (Some operator) n = written name (computed operator m n)

-- `setexpr name value` and `setexpr name value operator value`
abbrev pub setexpr_of : List (List ℕ) → Answer
setexpr_of (name ∷ value ∷ []) = if is_first_value value then written name (Some (value_of value)) else Err WrongUse
setexpr_of (name ∷ left ∷ operator ∷ right ∷ []) =
    if is_first_value left && is_value right then calculated name (value_of left) (operator_of operator) (value_of right) else Err WrongUse
setexpr_of _ = Err WrongUse
