-- The command `test` (docs/test-and-setexpr.md, "test"): an expression is terms, each joined with all before it.
use Rattle.std.specs.Prelude.{ℕ, ◌==◌, ◌&&◌, ◌||◌, Bool, true, false, not, List, [], ◌∷◌, length, codes, find, Option, Some, None, unwrap_or, int_lt, int_le, if◌then◌else◌}
use Rattle.std.specs.Option.{option_and_then}
use Rattle.std.specs.Ordering.{nat_cmp, int_eq, is_lt, is_gt}
use Rattle.std.specs.Cmp.Lexicographic.{slice_cmp}
use Rattle.std.specs.Str.{bytes_eq}
use Rattle.hush_calc.specs.declared.comparison.Comparison.{Comparison}
use Rattle.hush_calc.specs.declared.comparison.Comparison.TheVariants.{Same, Differs, Before, After, Equal, NotEqual, Less, LessOrEqual, Greater, GreaterOrEqual}
use Rattle.hush_calc.specs.declared.comparison.Opening.{Opening}
use Rattle.hush_calc.specs.declared.comparison.Opening.TheVariants.{Not, Filled, Empty, Word}
use Rattle.hush_calc.specs.declared.comparison.Joint.{Joint}
use Rattle.hush_calc.specs.declared.comparison.Joint.TheVariants.{And, Or}
use Rattle.hush_calc.specs.declared.numbers.Counting.{Counting}
use Rattle.hush_calc.specs.declared.numbers.Counting.TheVariants.{Saturating}
use Rattle.hush_calc.specs.Numbers.{integer_of}

abbrev pub spelling : Comparison → List ℕ
spelling Same = codes "="
spelling Differs = codes "!="
spelling Before = codes "<"
spelling After = codes ">"
spelling Equal = codes "-eq"
spelling NotEqual = codes "-ne"
spelling Less = codes "-lt"
spelling LessOrEqual = codes "-le"
spelling Greater = codes "-gt"
spelling GreaterOrEqual = codes "-ge"

abbrev pub comparisons : List Comparison
comparisons = Same ∷ Differs ∷ Before ∷ After ∷ Equal ∷ NotEqual ∷ Less ∷ LessOrEqual ∷ Greater ∷ GreaterOrEqual ∷ []

-- the comparison that a word is
abbrev pub comparison_of : List ℕ → Option Comparison
comparison_of word = find (λ comparison. bytes_eq (spelling comparison) word) comparisons

-- the first four compare bytes, the others the numbers at the front of the words
abbrev pub holds : Counting → Comparison → List ℕ → List ℕ → Bool
holds counting Same s t = bytes_eq s t
holds counting Differs s t = not (bytes_eq s t)
holds counting Before s t = is_lt (slice_cmp nat_cmp s t)
holds counting After s t = is_gt (slice_cmp nat_cmp s t)
holds counting Equal s t = int_eq (integer_of counting s) (integer_of counting t)
holds counting NotEqual s t = not (int_eq (integer_of counting s) (integer_of counting t))
holds counting Less s t = int_lt (integer_of counting s) (integer_of counting t)
holds counting LessOrEqual s t = int_le (integer_of counting s) (integer_of counting t)
holds counting Greater s t = int_lt (integer_of counting t) (integer_of counting s)
holds counting GreaterOrEqual s t = int_le (integer_of counting t) (integer_of counting s)

-- what a word is where a primary may begin
abbrev pub opening_of : List ℕ → Opening
opening_of word =
    if bytes_eq (codes "!") word then Not
    else if bytes_eq (codes "-n") word then Filled
    else if bytes_eq (codes "-z") word then Empty
    else Word

abbrev pub joint_of : List ℕ → Option Joint
joint_of word = if bytes_eq (codes "-a") word then Some And else if bytes_eq (codes "-o") word then Some Or else None

-- what a joint makes of the values at its sides
abbrev pub joint_value : Joint → Bool → Bool → Bool
joint_value And left right = left && right
joint_value Or left right = left || right

abbrev pub is_empty : List ℕ → Bool
is_empty word = length word == 0

-- a term's value under its negations, which are an odd number or not
abbrev pub signed : (odd : Bool) → Bool → Bool
signed false holds = holds
signed true holds = not holds

-- what words evaluate to from a place of an expression on: no value if they don't go on as one.
-- `f` makes of a term's value that of all terms up to it.
abbrev mutual
  -- a term: negations, then a primary
  pub from_term : (f : Bool → Bool) → (odd : Bool) → List (List ℕ) → Option Bool
  from_term f odd [] = None
  from_term f odd (w ∷ ws) = elim (opening_of w) [
    | Not ↦ from_term f (not odd) ws
    | Filled ↦ from_operand (λ s. f (signed odd (not (is_empty s)))) ws
    | Empty ↦ from_operand (λ s. f (signed odd (is_empty s))) ws
    | Word ↦ from_comparison (λ b. f (signed odd b)) w ws
  ]

  -- the operator after the first word of a comparison
  pub from_comparison : (f : Bool → Bool) → List ℕ → List (List ℕ) → Option Bool
  from_comparison f s [] = None
  from_comparison f s (w ∷ ws) = option_and_then (λ comparison. from_operand (λ t. f (holds Saturating comparison s t)) ws) (comparison_of w)

  -- the last word of a primary
  pub from_operand : (f : List ℕ → Bool) → List (List ℕ) → Option Bool
  from_operand f [] = None
  from_operand f (w ∷ ws) = from_joint (f w) ws

  -- the end, or a joint and a further term
  pub from_joint : (value : Bool) → List (List ℕ) → Option Bool
  from_joint value [] = Some value
  from_joint value (w ∷ ws) = option_and_then (λ joint. from_term (λ b. joint_value joint value b) false ws) (joint_of w)

-- the value of an expression, no value if the words aren't one
abbrev pub expression_of : List (List ℕ) → Option Bool
expression_of words = from_term (λ b. b) false words

-- whether the words are an expression that is true
abbrev pub test_of : List (List ℕ) → Bool
test_of words = unwrap_or (expression_of words) false
