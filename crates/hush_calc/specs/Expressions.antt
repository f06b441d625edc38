-- The expressions of `test` as what they are made of, and their words.
use Rattle.std.specs.Prelude.{◌≡◌, ℕ, Bool, not, List, [], ◌∷◌, ◌++◌, codes}
use Rattle.hush_calc.specs.declared.comparison.Comparison.{Comparison}
use Rattle.hush_calc.specs.declared.comparison.Opening.TheVariants.{Word}
use Rattle.hush_calc.specs.declared.comparison.Joint.{Joint}
use Rattle.hush_calc.specs.declared.comparison.Joint.TheVariants.{And, Or}
use Rattle.hush_calc.specs.declared.numbers.Counting.TheVariants.{Saturating}
use Rattle.hush_calc.specs.Test.{spelling, holds, opening_of, joint_value, is_empty}

-- `-n s`, `-z s`, or a comparison of two words
pub data Primary : Type 0 where
  Filled : List ℕ → Primary
  Empty : List ℕ → Primary
  Compared : List ℕ → Comparison → List ℕ → Primary

-- a primary, or `!` before a term
pub data Term : Type 0 where
  Plain : Primary → Term
  Negated : Term → Term

-- what is before the last joint, and the last term
pub data Expression : Type 0 where
  First : Term → Expression
  Joined : Expression → Joint → Term → Expression

abbrev pub primary_words : Primary → List (List ℕ)
primary_words (Filled s) = codes "-n" ∷ s ∷ []
primary_words (Empty s) = codes "-z" ∷ s ∷ []
primary_words (Compared s comparison t) = s ∷ spelling comparison ∷ t ∷ []

abbrev pub term_words : Term → List (List ℕ)
term_words (Plain primary) = primary_words primary
term_words (Negated term) = codes "!" ∷ term_words term

abbrev pub joint_word : Joint → List ℕ
joint_word And = codes "-a"
joint_word Or = codes "-o"

abbrev pub words_of : Expression → List (List ℕ)
words_of (First term) = term_words term
words_of (Joined expression joint term) = words_of expression ++ joint_word joint ∷ term_words term

abbrev pub primary_value : Primary → Bool
primary_value (Filled s) = not (is_empty s)
primary_value (Empty s) = is_empty s
primary_value (Compared s comparison t) = holds Saturating comparison s t

abbrev pub term_value : Term → Bool
term_value (Plain primary) = primary_value primary
term_value (Negated term) = not (term_value term)

abbrev pub value : Expression → Bool
value (First term) = term_value term
value (Joined expression joint term) = joint_value joint (value expression) (term_value term)

-- a comparison doesn't begin with `!`, `-n` or `-z`
abbrev pub IsPrimary : Primary → Type 0
IsPrimary (Filled s) = Unit {0}
IsPrimary (Empty s) = Unit {0}
IsPrimary (Compared s comparison t) = opening_of s ≡ Word

abbrev pub IsTerm : Term → Type 0
IsTerm (Plain primary) = IsPrimary primary
IsTerm (Negated term) = IsTerm term

abbrev pub IsExpression : Expression → Type 0
IsExpression (First term) = IsTerm term
IsExpression (Joined expression joint term) = IsExpression expression × IsTerm term

-- the words are those of an expression that has this value
pub record IsWritten (words : List (List ℕ)) (v : Bool) : Type 0 where
  pub expression : Expression
  pub is_expression : IsExpression expression
  pub written : words_of expression ≡ words
  pub comes_to : value expression ≡ v
