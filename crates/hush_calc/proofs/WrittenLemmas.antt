-- Words that have a value are those of an expression that evaluates to it.
use Rattle.std.proofs.Common.{◌≡◌, ℕ, zero, suc, ◌≤◌, Bool, true, false, cond, find, not, List, [], ◌∷◌, ◌++◌, length, None, Some, refl, sym, ap, ◌∙◌, subst, ⊎_elim, append_assoc, arith, length-append}
use Rattle.std.specs.Prelude.{codes}
use Rattle.std.specs.Str.{bytes_eq}
use Rattle.std.proofs.lemmas.Bool.{cases_Bool, cond-true, cond-false}
use Rattle.std.proofs.lemmas.List.{append-nil}
use Rattle.std.proofs.lemmas.Option.{option_and_then_some}
use Rattle.std.proofs.lemmas.Slice.Eq.{bytes_eq-Decides}
use Rattle.hush_calc.specs.declared.comparison.Comparison.{Comparison}
use Rattle.hush_calc.specs.declared.comparison.Opening.TheVariants.{Not, Filled, Empty, Word}
use Rattle.hush_calc.specs.declared.comparison.Joint.{Joint}
use Rattle.hush_calc.specs.declared.comparison.Joint.TheVariants.{And, Or}
use Rattle.hush_calc.specs.declared.numbers.Counting.TheVariants.{Saturating}
use Rattle.hush_calc.specs.Test.{spelling, comparisons, comparison_of, holds, opening_of, joint_of, joint_value, is_empty, signed, from_term, from_comparison, from_operand, from_joint, expression_of}
use Rattle.hush_calc.specs.Expressions as tree
use Rattle.hush_calc.specs.Expressions.{Term, Expression, term_words, joint_word, words_of, term_value, value, IsTerm, IsExpression, IsWritten}
use Rattle.hush_calc.proofs.TermLemmas.{term-cons}
use Rattle.hush_calc.proofs.ExpressionLemmas.{signed-not}

same-word : (text w : List ℕ) → bytes_eq text w ≡ true → w ≡ text
same-word text w h = sym ((bytes_eq-Decides text w).0 h)

-- what a word is tells which word it is
opening-not : (a b c : Bool) → cond a Not (cond b Filled (cond c Empty Word)) ≡ Not → a ≡ true
opening-not true b c e = refl
opening-not false true c e = cc
opening-not false false true e = cc
opening-not false false false e = cc

opening-filled : (a b c : Bool) → cond a Not (cond b Filled (cond c Empty Word)) ≡ Filled → b ≡ true
opening-filled true b c e = cc
opening-filled false true c e = refl
opening-filled false false true e = cc
opening-filled false false false e = cc

opening-empty : (a b c : Bool) → cond a Not (cond b Filled (cond c Empty Word)) ≡ Empty → c ≡ true
opening-empty true b c e = cc
opening-empty false true c e = cc
opening-empty false false true e = refl
opening-empty false false false e = cc

not-word : (w : List ℕ) → opening_of w ≡ Not → w ≡ codes "!"
not-word w e = same-word (codes "!") w (opening-not (bytes_eq (codes "!") w) (bytes_eq (codes "-n") w) (bytes_eq (codes "-z") w) e)

filled-word : (w : List ℕ) → opening_of w ≡ Filled → w ≡ codes "-n"
filled-word w e = same-word (codes "-n") w (opening-filled (bytes_eq (codes "!") w) (bytes_eq (codes "-n") w) (bytes_eq (codes "-z") w) e)

empty-word : (w : List ℕ) → opening_of w ≡ Empty → w ≡ codes "-z"
empty-word w e = same-word (codes "-z") w (opening-empty (bytes_eq (codes "!") w) (bytes_eq (codes "-n") w) (bytes_eq (codes "-z") w) e)

find-passes : (p : Comparison → Bool) (cs : List Comparison) (c : Comparison) → find p cs ≡ Some c → p c ≡ true
find-passes p [] c e = cc
find-passes p (x ∷ xs) c e =
    ⊎_elim
    (λ h. let f : Some x ≡ Some c = sym (cond-true _ (Some x) (find p xs) h) ∙ e in let g : x ≡ c = cc in subst (λ (y : Comparison). p y ≡ true) g h)
    (λ h. find-passes p xs c (sym (cond-false _ (Some x) (find p xs) h) ∙ e))
    (cases_Bool (p x))

comparison-word : (w : List ℕ) (c : Comparison) → comparison_of w ≡ Some c → w ≡ spelling c
comparison-word w c e = same-word (spelling c) w (find-passes (λ x. bytes_eq (spelling x) w) comparisons c e)

joint-cases : (a b : Bool) (w : List ℕ) (j : Joint) → (a ≡ true → w ≡ codes "-a") → (b ≡ true → w ≡ codes "-o") → cond a (Some And) (cond b (Some Or) None) ≡ Some j → w ≡ joint_word j
joint-cases true b w j ands ors e = let f : And ≡ j = cc in ands refl ∙ ap joint_word f
joint-cases false true w j ands ors e = let f : Or ≡ j = cc in ors refl ∙ ap joint_word f
joint-cases false false w j ands ors e = cc

joint-is : (w : List ℕ) (j : Joint) → joint_of w ≡ Some j → w ≡ joint_word j
joint-is w j e = joint-cases (bytes_eq (codes "-a") w) (bytes_eq (codes "-o") w) w j (same-word (codes "-a") w) (same-word (codes "-o") w) e

-- a last word of a primary, and what goes on after it
record OperandFound (f : List ℕ → Bool) (ws : List (List ℕ)) (v : Bool) : Type 0 where
  operand : List ℕ
  rest : List (List ℕ)
  front : ws ≡ operand ∷ rest
  goes_on : from_joint (f operand) rest ≡ Some v

operand-found : (f : List ℕ → Bool) (ws : List (List ℕ)) (v : Bool) → from_operand f ws ≡ Some v → OperandFound f ws v
operand-found f [] v e = cc
operand-found f (w ∷ ws) v e = record { operand = w; rest = ws; front = refl; goes_on = e }

record TermFound (f : Bool → Bool) (odd : Bool) (ws : List (List ℕ)) (v : Bool) : Type 0 where
  term : Term
  rest : List (List ℕ)
  is : IsTerm term
  front : ws ≡ term_words term ++ rest
  goes_on : from_joint (f (signed odd (term_value term))) rest ≡ Some v

filled-found : (f : Bool → Bool) (odd : Bool) (w : List ℕ) (ws : List (List ℕ)) (v : Bool) → w ≡ codes "-n" → OperandFound (λ s. f (signed odd (not (is_empty s)))) ws v → TermFound f odd (w ∷ ws) v
filled-found f odd w ws v is found = record {
  term = tree.Plain (tree.Filled found.operand);
  rest = found.rest;
  is = tt;
  front = ap (λ (x : List ℕ). x ∷ ws) is ∙ ap (λ (xs : List (List ℕ)). codes "-n" ∷ xs) found.front;
  goes_on = found.goes_on;
}

empty-found : (f : Bool → Bool) (odd : Bool) (w : List ℕ) (ws : List (List ℕ)) (v : Bool) → w ≡ codes "-z" → OperandFound (λ s. f (signed odd (is_empty s))) ws v → TermFound f odd (w ∷ ws) v
empty-found f odd w ws v is found = record {
  term = tree.Plain (tree.Empty found.operand);
  rest = found.rest;
  is = tt;
  front = ap (λ (x : List ℕ). x ∷ ws) is ∙ ap (λ (xs : List (List ℕ)). codes "-z" ∷ xs) found.front;
  goes_on = found.goes_on;
}

compared-found : (f : Bool → Bool) (odd : Bool) (w op : List ℕ) (c : Comparison) (ws : List (List ℕ)) (v : Bool) → opening_of w ≡ Word → op ≡ spelling c →
    OperandFound (λ t. f (signed odd (holds Saturating c w t))) ws v → TermFound f odd (w ∷ op ∷ ws) v
compared-found f odd w op c ws v is spelled found = record {
  term = tree.Plain (tree.Compared w c found.operand);
  rest = found.rest;
  is = is;
  front = ap (λ (x : List ℕ). w ∷ x ∷ ws) spelled ∙ ap (λ (xs : List (List ℕ)). w ∷ spelling c ∷ xs) found.front;
  goes_on = found.goes_on;
}

comparison-found : (f : Bool → Bool) (odd : Bool) (w : List ℕ) (ws : List (List ℕ)) (v : Bool) → opening_of w ≡ Word → from_comparison (λ b. f (signed odd b)) w ws ≡ Some v → TermFound f odd (w ∷ ws) v
comparison-found f odd w [] v is e = cc
comparison-found f odd w (op ∷ ws) v is e =
    option_and_then_some (λ c. from_operand (λ t. f (signed odd (holds Saturating c w t))) ws) (comparison_of op) v e
    (λ c spelled h. compared-found f odd w op c ws v is (comparison-word op c spelled) (operand-found (λ t. f (signed odd (holds Saturating c w t))) ws v h))

negated-found : (f : Bool → Bool) (odd : Bool) (w : List ℕ) (ws : List (List ℕ)) (v : Bool) → w ≡ codes "!" → TermFound f (not odd) ws v → TermFound f odd (w ∷ ws) v
negated-found f odd w ws v is found = record {
  term = tree.Negated found.term;
  rest = found.rest;
  is = found.is;
  front = ap (λ (x : List ℕ). x ∷ ws) is ∙ ap (λ (xs : List (List ℕ)). codes "!" ∷ xs) found.front;
  goes_on = sym (ap (λ (b : Bool). from_joint (f b) found.rest) (signed-not odd (term_value found.term))) ∙ found.goes_on;
}

term-found : (ws : List (List ℕ)) (f : Bool → Bool) (odd : Bool) (v : Bool) → from_term f odd ws ≡ Some v → TermFound f odd ws v
term-found [] f odd v e = cc
term-found (w ∷ ws) f odd v e =
    elim (opening_of w) as (λ o. o ≡ opening_of w → TermFound f odd (w ∷ ws) v) [
      | Not ↦ λ is. negated-found f odd w ws v (not-word w (sym is)) (term-found ws f (not odd) v (sym (term-cons f odd (w ∷ ws) w ws Not refl is) ∙ e))
      | Filled ↦ λ is. filled-found f odd w ws v (filled-word w (sym is)) (operand-found (λ s. f (signed odd (not (is_empty s)))) ws v (sym (term-cons f odd (w ∷ ws) w ws Filled refl is) ∙ e))
      | Empty ↦ λ is. empty-found f odd w ws v (empty-word w (sym is)) (operand-found (λ s. f (signed odd (is_empty s))) ws v (sym (term-cons f odd (w ∷ ws) w ws Empty refl is) ∙ e))
      | Word ↦ λ is. comparison-found f odd w ws v (sym is) (sym (term-cons f odd (w ∷ ws) w ws Word refl is) ∙ e)
    ] refl

-- further terms after an expression
written-more : (e : Expression) (j : Joint) (t : Term) (w : List ℕ) (ws rest : List (List ℕ)) → w ≡ joint_word j → ws ≡ term_words t ++ rest →
    words_of (tree.Joined e j t) ++ rest ≡ words_of e ++ w ∷ ws
written-more e j t w ws rest is front =
    append_assoc (words_of e) (joint_word j ∷ term_words t) rest
    ∙ ap (λ (xs : List (List ℕ)). words_of e ++ joint_word j ∷ xs) (sym front)
    ∙ ap (λ (x : List ℕ). words_of e ++ x ∷ ws) (sym is)

shorter-rest : (t rest ws : List (List ℕ)) (n : ℕ) → ws ≡ t ++ rest → length ws ≤ n → length rest ≤ n
shorter-rest t rest ws n e h = omega (arith, ap length e, length-append t rest)

along : (words others : List (List ℕ)) (v : Bool) → words ≡ others → IsWritten words v → IsWritten others v
along words others v e is = subst (λ (xs : List (List ℕ)). IsWritten xs v) e is

joints-found : (n : ℕ) (rest : List (List ℕ)) (e : Expression) (v : Bool) → length rest ≤ n → IsExpression e → from_joint (value e) rest ≡ Some v → IsWritten (words_of e ++ rest) v
joints-found n [] e v small is h = record {
  expression = e;
  is_expression = is;
  written = sym (append-nil (words_of e));
  comes_to = let f : value e ≡ v = cc in f;
}
joints-found zero (w ∷ ws) e v small is h = absurd (omega arith)
joints-found (suc n) (w ∷ ws) e v small is h =
    option_and_then_some (λ j. from_term (λ b. joint_value j (value e) b) false ws) (joint_of w) v h
    (λ j spelled g.
    let found : TermFound (λ b. joint_value j (value e) b) false ws v = term-found ws (λ b. joint_value j (value e) b) false v g in
    along (words_of (tree.Joined e j found.term) ++ found.rest) (words_of e ++ w ∷ ws) v
    (written-more e j found.term w ws found.rest (joint-is w j spelled) found.front)
    (joints-found n found.rest (tree.Joined e j found.term) v (shorter-rest (term_words found.term) found.rest ws n found.front (omega arith)) (is, found.is) found.goes_on))

pub expressions-written : (words : List (List ℕ)) (v : Bool) → expression_of words ≡ Some v → IsWritten words v
expressions-written words v e =
    let found : TermFound (λ b. b) false words v = term-found words (λ b. b) false v e in
    along (term_words found.term ++ found.rest) words v (sym found.front)
    (joints-found (length found.rest) found.rest (tree.First found.term) v (omega arith) found.is found.goes_on)
