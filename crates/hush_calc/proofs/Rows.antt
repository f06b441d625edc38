-- Worked examples of docs/test-and-setexpr.md, which the checker computes from the definitions.
use Rattle.std.proofs.Common.{◌≡◌, ℕ, pos, negsuc, true, false, List, [], ◌∷◌, None, Some, Ok, Err, refl}
use Rattle.std.specs.Prelude.{codes, map}
use Rattle.std.specs.Int.{int_wrap}
use Rattle.hush_calc.specs.declared.calculation.SetexprFault.TheVariants.{WrongUse, DivisionByZero}
use Rattle.hush_calc.specs.declared.numbers.Counting.TheVariants.{Saturating, Wrapping}
use Rattle.hush_calc.specs.Numbers.{integer_of, value_of}
use Rattle.hush_calc.specs.Test.{expression_of}
use Rattle.hush_calc.specs.Board.{board_test_of}
use Rattle.hush_calc.specs.Hexadecimal.{hexadecimal}
use Rattle.hush_calc.specs.Setexpr.{Answer, setexpr_of}

-- what is a number for `test`, and what follows it is ignored
integers : map (integer_of Saturating) (codes "010" ∷ codes "08" ∷ codes "0x1F" ∷ codes "0Xg" ∷ codes "0x" ∷ codes "12abc" ∷ codes "-12" ∷ codes "--1" ∷ codes "+1" ∷ [] ∷ [])
    ≡ pos 8 ∷ pos 0 ∷ pos 31 ∷ pos 0 ∷ pos 0 ∷ pos 12 ∷ negsuc 11 ∷ pos 0 ∷ pos 0 ∷ pos 0 ∷ []
integers = refl

-- a large magnitude is taken as the largest, on either side of 0
large_integers : map (integer_of Saturating) (codes "9223372036854775807" ∷ codes "9223372036854775808" ∷ codes "-18446744073709551617" ∷ codes "0xffffffffffffffffffff" ∷ [])
    ≡ pos 9223372036854775807 ∷ pos 9223372036854775807 ∷ negsuc 9223372036854775806 ∷ pos 9223372036854775807 ∷ []
large_integers = refl

-- a board counts modulo 2 to the 64th, before and after the sign
wrapped_integers : map (integer_of Wrapping) (codes "9223372036854775807" ∷ codes "9223372036854775808" ∷ codes "-0x8000000000000000" ∷ codes "0xffffffffffffffff" ∷ codes "18446744073709551621abc" ∷ codes "-18446744073709551617" ∷ codes "-01777777777777777777777" ∷ [])
    ≡ pos 9223372036854775807 ∷ negsuc 9223372036854775807 ∷ negsuc 9223372036854775807 ∷ negsuc 0 ∷ pos 5 ∷ negsuc 0 ∷ pos 1 ∷ []
unfolding int_wrap
wrapped_integers = refl

-- so the same comparison may hold in one shell alone
above : List ℕ → List (List ℕ)
above number = number ∷ codes "-gt" ∷ codes "1" ∷ []

large_for_test : map (λ (number : List ℕ). expression_of (above number)) (codes "18446744073709551615" ∷ codes "-18446744073709551614" ∷ []) ≡ Some true ∷ Some false ∷ []
unfolding above
large_for_test = refl

large_on_a_board : map (λ (number : List ℕ). board_test_of (λ words. false) (above number)) (codes "18446744073709551615" ∷ codes "-18446744073709551614" ∷ []) ≡ false ∷ true ∷ []
unfolding above int_wrap
large_on_a_board = refl

-- values of `setexpr` are hexadecimal with or without `0x`, and taken modulo 2 to the 64th
values : map value_of (codes "10" ∷ codes "0x10" ∷ codes "0Xfg" ∷ codes "0x" ∷ codes "0xg" ∷ codes "Fz" ∷ codes "-1" ∷ codes "10000000000000001" ∷ [] ∷ [])
    ≡ 16 ∷ 16 ∷ 15 ∷ 0 ∷ 0 ∷ 15 ∷ 0 ∷ 1 ∷ 0 ∷ []
values = refl

comparison : expression_of (codes "a" ∷ codes "<" ∷ codes "b" ∷ []) ≡ Some true
comparison = refl

-- a prefix comes before the longer word, and the empty word before all
front_first : expression_of (codes "ab" ∷ codes ">" ∷ codes "a" ∷ codes "-a" ∷ [] ∷ codes "<" ∷ codes "a" ∷ []) ≡ Some true
front_first = refl

numbers_compared : expression_of (codes "010" ∷ codes "-eq" ∷ codes "8" ∷ codes "-a" ∷ codes "-5" ∷ codes "-lt" ∷ codes "0x1" ∷ []) ≡ Some true
numbers_compared = refl

-- as bytes 10 comes before 9, as numbers after it
bytes_or_numbers : expression_of (codes "10" ∷ codes "<" ∷ codes "9" ∷ codes "-a" ∷ codes "10" ∷ codes "-ge" ∷ codes "9" ∷ []) ≡ Some true
bytes_or_numbers = refl

-- both joints have the same rank: (a or b) and c
equal_rank : expression_of (codes "a" ∷ codes "=" ∷ codes "a" ∷ codes "-o" ∷ codes "a" ∷ codes "=" ∷ codes "a" ∷ codes "-a" ∷ codes "a" ∷ codes "=" ∷ codes "b" ∷ []) ≡ Some false
equal_rank = refl

negated_twice : expression_of (codes "!" ∷ codes "!" ∷ codes "a" ∷ codes "=" ∷ codes "a" ∷ []) ≡ Some true
negated_twice = refl

-- a negation is of the primary that follows alone
negated_first : expression_of (codes "!" ∷ codes "a" ∷ codes "=" ∷ codes "b" ∷ codes "-a" ∷ codes "a" ∷ codes "=" ∷ codes "b" ∷ []) ≡ Some false
negated_first = refl

-- `-n` and `-z` take any word, also one that is an operator
unary_first : expression_of (codes "-n" ∷ codes "-z" ∷ codes "-a" ∷ codes "-z" ∷ [] ∷ []) ≡ Some true
unary_first = refl

-- and where a primary may begin they are never the first word of a comparison, nor is `!`
unary_is_no_text : expression_of (codes "-n" ∷ codes "=" ∷ codes "-n" ∷ []) ≡ None
unary_is_no_text = refl

not_is_no_text : expression_of (codes "!" ∷ codes "=" ∷ codes "!" ∷ []) ≡ None
not_is_no_text = refl

-- other operators may be texts
operators_as_texts : expression_of (codes "=" ∷ codes "=" ∷ codes "=" ∷ codes "-a" ∷ codes "-a" ∷ codes "!=" ∷ codes "-o" ∷ []) ≡ Some true
operators_as_texts = refl

no_expressions : map expression_of ([] ∷ (codes "a" ∷ []) ∷ (codes "a" ∷ codes "=" ∷ []) ∷ (codes "a" ∷ codes "==" ∷ codes "a" ∷ []) ∷ (codes "!" ∷ []) ∷ (codes "-n" ∷ []) ∷ [])
    ≡ None ∷ None ∷ None ∷ None ∷ None ∷ None ∷ []
no_expressions = refl

-- nor is one that goes on wrongly, whatever its prefix evaluates to
no_expressions_behind : map expression_of ((codes "-n" ∷ codes "a" ∷ codes "b" ∷ []) ∷ (codes "-n" ∷ codes "a" ∷ codes "-o" ∷ []) ∷ (codes "-n" ∷ codes "a" ∷ codes "-n" ∷ codes "b" ∷ []) ∷ []) ≡ None ∷ None ∷ None ∷ []
no_expressions_behind = refl

-- what `setexpr v LEFT OPERATOR RIGHT` evaluates to
calculation : List ℕ → List ℕ → List ℕ → Answer
calculation left operator right = setexpr_of (codes "v" ∷ left ∷ operator ∷ right ∷ [])

answer : List ℕ → Answer
answer text = Ok (codes "v", text)

sum : calculation (codes "ff") (codes "+") (codes "1") ≡ answer (codes "100")
unfolding calculation answer hexadecimal
sum = refl

difference_wraps : calculation (codes "5") (codes "-") (codes "6") ≡ answer (codes "ffffffffffffffff")
unfolding calculation answer hexadecimal
difference_wraps = refl

product : calculation (codes "0x10") (codes "*") (codes "10") ≡ answer (codes "100")
unfolding calculation answer hexadecimal
product = refl

product_wraps : calculation (codes "8000000000000001") (codes "*") (codes "2") ≡ answer (codes "2")
unfolding calculation answer hexadecimal
product_wraps = refl

quotient_and_remainder : map (λ (operator : List ℕ). calculation (codes "17") operator (codes "5")) (codes "/" ∷ codes "%" ∷ []) ≡ answer (codes "4") ∷ answer (codes "3") ∷ []
unfolding calculation answer hexadecimal
quotient_and_remainder = refl

bits : map (λ (operator : List ℕ). calculation (codes "F0") operator (codes "3c")) (codes "&" ∷ codes "|" ∷ codes "^" ∷ []) ≡ answer (codes "30") ∷ answer (codes "fc") ∷ answer (codes "cc") ∷ []
unfolding calculation answer hexadecimal
bits = refl

-- no leading zeros, and one digit for zero
zeros : map (λ (value : List ℕ). setexpr_of (codes "v" ∷ value ∷ [])) (codes "00ab" ∷ codes "0" ∷ codes "zz" ∷ [] ∷ []) ≡ answer (codes "ab") ∷ answer (codes "0") ∷ answer (codes "0") ∷ answer (codes "0") ∷ []
unfolding answer hexadecimal
zeros = refl

divided_by_zero : map (λ (operator : List ℕ). calculation (codes "1") operator (codes "0x")) (codes "/" ∷ codes "%" ∷ []) ≡ Err DivisionByZero ∷ Err DivisionByZero ∷ []
unfolding calculation
divided_by_zero = refl

-- wrong use comes before a division by zero
wrong_before_division : map (λ (left : List ℕ). calculation left (codes "/") (codes "0")) (codes "*1" ∷ codes "sub" ∷ codes "gsub" ∷ codes "fmt" ∷ []) ≡ Err WrongUse ∷ Err WrongUse ∷ Err WrongUse ∷ Err WrongUse ∷ []
unfolding calculation
wrong_before_division = refl

memory_left_out : map (λ (right : List ℕ). calculation (codes "1") (codes "/") right) (codes "*0" ∷ codes "sub" ∷ []) ≡ Err WrongUse ∷ Err DivisionByZero ∷ []
unfolding calculation
memory_left_out = refl

other_operators : map (λ (operator : List ℕ). calculation (codes "1") operator (codes "2")) (codes "++" ∷ codes "<" ∷ [] ∷ codes "-eq" ∷ []) ≡ Err WrongUse ∷ Err WrongUse ∷ Err WrongUse ∷ Err WrongUse ∷ []
unfolding calculation
other_operators = refl

other_numbers_of_words : map setexpr_of ([] ∷ (codes "v" ∷ []) ∷ (codes "v" ∷ codes "3" ∷ codes "^" ∷ []) ∷ (codes "v" ∷ codes "1" ∷ codes "+" ∷ codes "1" ∷ codes "+" ∷ []) ∷ [])
    ≡ Err WrongUse ∷ Err WrongUse ∷ Err WrongUse ∷ Err WrongUse ∷ []
other_numbers_of_words = refl

-- on a board words that are no expression are true, from two on; of two values that no joint joins the later one counts
on_a_board : map (board_test_of (λ words. false)) (
    (codes "x" ∷ []) ∷ (codes "x" ∷ codes "y" ∷ []) ∷ (codes "-eq" ∷ codes "1" ∷ []) ∷ (codes "a" ∷ codes "=" ∷ [])
    ∷ (codes "!" ∷ codes "=" ∷ codes "!" ∷ []) ∷ (codes "!" ∷ codes "-n" ∷ codes "a" ∷ [])
    ∷ (codes "a" ∷ codes "=" ∷ codes "a" ∷ codes "b" ∷ codes "=" ∷ codes "c" ∷ []) ∷ (codes "a" ∷ codes "=" ∷ codes "b" ∷ codes "-o" ∷ [])
    ∷ (codes "-e" ∷ codes "mmc" ∷ codes "0:1" ∷ codes "f" ∷ []) ∷ (codes "-e" ∷ codes "mmc" ∷ codes "0:1" ∷ []) ∷ []
    ) ≡ false ∷ true ∷ true ∷ true ∷ true ∷ false ∷ false ∷ false ∷ false ∷ true ∷ []
on_a_board = refl
