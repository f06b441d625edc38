-- The command `test` by the evaluation of a board (docs/test-and-setexpr.md, "Boards"): the words are read from the left, and
-- what is read holds the value so far, whether a `!` waits, and the joint that waits, with the value before it.
use Rattle.std.specs.Prelude.{ℕ, Bool, true, false, not, List, [], ◌∷◌, codes, Option, Some, None, if◌then◌else◌}
use Rattle.std.specs.Str.{bytes_eq}
use Rattle.hush_calc.specs.declared.comparison.Comparison.{Comparison}
use Rattle.hush_calc.specs.declared.comparison.Opening.TheVariants.{Not, Filled, Empty, Word}
use Rattle.hush_calc.specs.declared.comparison.Joint.{Joint}
use Rattle.hush_calc.specs.declared.numbers.Counting.TheVariants.{Wrapping}
use Rattle.hush_calc.specs.declared.board.Reading.{Reading}
use Rattle.hush_calc.specs.Test.{comparison_of, holds, opening_of, joint_of, joint_value, is_empty, signed}

-- whether the file is there that the words after a `-e` name: an interface, a device and a file, and perhaps further words
abbrev pub Files : Type 0
Files = List (List ℕ) → Bool

-- a value under the joint that waits, if one does
abbrev pub joined_value : Option (Joint × Bool) → Bool → Bool
joined_value None value = value
joined_value (Some (joint, left)) value = joint_value joint left value

abbrev pub with_value : Reading → Bool → Reading
with_value r value = record { value = joined_value r.joined (signed r.negated value); negated = false; joined = None }

abbrev pub with_joint : Reading → Joint → Reading
with_joint r joint = record r { joined = Some (joint, r.value) }

abbrev pub nothing_read : Reading
nothing_read = record { value = false; negated = false; joined = None }

-- the operator of a comparison, if the word is one
abbrev pub comparison_in : List (List ℕ) → Option Comparison
comparison_in [] = None
comparison_in (w ∷ ws) = comparison_of w

-- what words evaluate to from a place on, when that was read before it. Three words with an operator in the middle come
-- first. Words that are no part of an expression, or too few, make the whole true; of two values that no joint joins the
-- later one counts. Whether a file is there is asked.
abbrev mutual
  pub board_from : (there : Files) → Reading → List (List ℕ) → Bool
  board_from there r [] = r.value
  board_from there r (w ∷ ws) = elim (comparison_in ws) [
    | Some comparison ↦ board_compared there r w comparison ws
    | None ↦
        elim (opening_of w) [
          | Not ↦ board_from there (record r { negated = not r.negated }) ws
          | Filled ↦ board_operand there r (λ s. not (is_empty s)) ws
          | Empty ↦ board_operand there r is_empty ws
          | Word ↦
              elim (joint_of w) [
                | Some joint ↦ board_from there (with_joint r joint) ws
                | None ↦ if bytes_eq (codes "-e") w then board_file there r ws else true
              ]
        ]
  ]

  -- after the first word of a comparison
  pub board_compared : (there : Files) → Reading → List ℕ → Comparison → List (List ℕ) → Bool
  board_compared there r s comparison [] = true
  board_compared there r s comparison (w ∷ []) = true
  board_compared there r s comparison (w ∷ t ∷ ws) = board_from there (with_value r (holds Wrapping comparison s t)) ws

  -- after `-n` and `-z`
  pub board_operand : (there : Files) → Reading → (List ℕ → Bool) → List (List ℕ) → Bool
  board_operand there r value [] = true
  board_operand there r value (s ∷ ws) = board_from there (with_value r (value s)) ws

  -- after `-e`: an interface, a device and a file
  pub board_file : (there : Files) → Reading → List (List ℕ) → Bool
  board_file there r [] = true
  board_file there r (i ∷ []) = true
  board_file there r (i ∷ d ∷ []) = true
  board_file there r (i ∷ d ∷ f ∷ ws) = board_from there (with_value r (there (i ∷ d ∷ f ∷ ws))) ws

-- whether the words are true: fewer than two aren't
abbrev pub board_test_of : (there : Files) → List (List ℕ) → Bool
board_test_of there [] = false
board_test_of there (w ∷ []) = false
board_test_of there (w ∷ x ∷ ws) = board_from there nothing_read (w ∷ x ∷ ws)
