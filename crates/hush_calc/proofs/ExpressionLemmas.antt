-- The words of an expression evaluate to its value.
use Rattle.std.proofs.Common.{◌≡◌, ℕ, Bool, true, false, not, List, [], ◌∷◌, ◌++◌, Option, Some, refl, sym, ap, ◌∙◌, append_assoc}
use Rattle.std.proofs.lemmas.List.{append-nil}
use Rattle.std.specs.Option.{option_and_then}
use Rattle.hush_calc.specs.declared.comparison.Comparison.{Comparison}
use Rattle.hush_calc.specs.declared.comparison.Comparison.TheVariants.{Same, Differs, Before, After, Equal, NotEqual, Less, LessOrEqual, Greater, GreaterOrEqual}
use Rattle.hush_calc.specs.declared.comparison.Opening.TheVariants.{Word}
use Rattle.hush_calc.specs.declared.comparison.Joint.{Joint}
use Rattle.hush_calc.specs.declared.comparison.Joint.TheVariants.{And, Or}
use Rattle.hush_calc.specs.declared.numbers.Counting.TheVariants.{Saturating}
use Rattle.hush_calc.specs.Test.{spelling, comparison_of, holds, joint_of, joint_value, signed, from_term, from_operand, from_joint, expression_of}
use Rattle.hush_calc.specs.Expressions.{Term, Expression, Filled, Empty, Compared, Plain, Negated, First, Joined, term_words, joint_word, words_of, term_value, value, IsTerm, IsExpression}
use Rattle.hush_calc.proofs.TermLemmas.{term-cons}

comparison-spelled : (c : Comparison) → comparison_of (spelling c) ≡ Some c
comparison-spelled Same = refl
comparison-spelled Differs = refl
comparison-spelled Before = refl
comparison-spelled After = refl
comparison-spelled Equal = refl
comparison-spelled NotEqual = refl
comparison-spelled Less = refl
comparison-spelled LessOrEqual = refl
comparison-spelled Greater = refl
comparison-spelled GreaterOrEqual = refl

joint-spelled : (j : Joint) → joint_of (joint_word j) ≡ Some j
joint-spelled And = refl
joint-spelled Or = refl

pub signed-not : (odd b : Bool) → signed (not odd) b ≡ signed odd (not b)
signed-not true true = refl
signed-not true false = refl
signed-not false true = refl
signed-not false false = refl

term-read : (t : Term) (f : Bool → Bool) (odd : Bool) (rest : List (List ℕ)) → IsTerm t → from_term f odd (term_words t ++ rest) ≡ from_joint (f (signed odd (term_value t))) rest
term-read (Plain (Filled s)) f odd rest is = refl
term-read (Plain (Empty s)) f odd rest is = refl
term-read (Plain (Compared s c t)) f odd rest is =
    term-cons f odd (s ∷ spelling c ∷ t ∷ rest) s (spelling c ∷ t ∷ rest) Word refl (sym is)
    ∙ ap (λ (o : Option Comparison). option_and_then (λ x. from_operand (λ u. f (signed odd (holds Saturating x s u))) (t ∷ rest)) o) (comparison-spelled c)
term-read (Negated t) f odd rest is =
    term-read t f (not odd) rest is ∙ ap (λ (b : Bool). from_joint (f b) rest) (signed-not odd (term_value t))

expression-read : (e : Expression) (rest : List (List ℕ)) → IsExpression e → expression_of (words_of e ++ rest) ≡ from_joint (value e) rest
expression-read (First t) rest is = term-read t (λ b. b) false rest is
expression-read (Joined e j t) rest is =
    ap expression_of (append_assoc (words_of e) (joint_word j ∷ term_words t) rest)
    ∙ expression-read e (joint_word j ∷ (term_words t ++ rest)) is.0
    ∙ ap (λ (o : Option Joint). option_and_then (λ x. from_term (λ b. joint_value x (value e) b) false (term_words t ++ rest)) o) (joint-spelled j)
    ∙ term-read t (λ b. joint_value j (value e) b) false rest is.1

pub expressions-read : (e : Expression) → IsExpression e → expression_of (words_of e) ≡ Some (value e)
expressions-read e is = ap expression_of (sym (append-nil (words_of e))) ∙ expression-read e [] is
