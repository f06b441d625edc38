-- A variable is refused for its type if its value doesn't have it.
use Rattle.std.proofs.Common.{◌≡◌, ◌&&◌, ℕ, Bool, true, false, not, List, [], ◌∷◌, Option, Some, None, refl, sym, ap, ◌∙◌, if◌then◌else◌, nat_lt}
use Rattle.std.specs.Prelude.{IsTrue, Result, Ok, Err, is_none}
use Rattle.std.specs.FinMap.{get}
use Rattle.envimg_core.specs.Environment.{Environment, is_name, is_value, used}
use Rattle.envvars_core.specs.Attributes.{attributes}
use Rattle.envvars_core.specs.Types.{has_type}
use Rattle.envvars_core.specs.declared.refusals.Refusal.{Refusal}
use Rattle.envvars_core.specs.declared.refusals.Refusal.TheVariants.{BadType, Full}
use Rattle.fw_check.specs.Looking.{is_for_type}
use Rattle.envvars_core.specs.Refusals.{after, answer_of, first_refusal, full, given, holds_no_zero, refusal}

and-false : (b : Bool) → (b && false) ≡ false
and-false true = refl
and-false false = refl

by-typed : (typed : Bool) (size : Option Refusal) → first_refusal true false typed None size ≡ (if typed then size else Some BadType)
by-typed true size = refl
by-typed false size = refl

by-type : (formed nothing typed : Bool) (size : Option Refusal) → formed ≡ true → nothing ≡ false → first_refusal formed nothing typed None size ≡ (if typed then size else Some BadType)
by-type formed nothing typed size f n = (λ i. first_refusal (f i) (n i) typed None size) ∙ by-typed typed size

pub typed_refusal : (env : Environment) (room : ℕ) (n v : List ℕ) → IsTrue (is_name n) → IsTrue (is_value v) →
    refusal env env room n (Some v) true ≡ (if has_type (attributes env n).kind v then full room (after env n (Some v)) else Some BadType)
unfolding refusal
typed_refusal env room n [] named valued = absurd (let no : false ≡ true = valued in cc)
typed_refusal env room n (b ∷ bs) named valued =
    by-type (is_name n && holds_no_zero (Some (b ∷ bs))) (is_none (get env n) && is_none (given (Some (b ∷ bs)))) (has_type (attributes env n).kind (b ∷ bs)) (full room (after env n (Some (b ∷ bs))))
    ((λ i. named i && valued i)) (and-false (is_none (get env n)))

-- by the answer
answered-ok : (t b : Bool) (r : Result (Unit {0}) Refusal) → r ≡ answer_of (if t then (if b then Some Full else None) else Some BadType) → r ≡ Ok tt → true ≡ t
answered-ok true b r e ok = refl
answered-ok false b r e ok = absurd (let no : ◌≡◌ {A = Result (Unit {0}) Refusal} (Err BadType) (Ok tt) = sym e ∙ ok in cc)

answered-err : (t b : Bool) (r : Result (Unit {0}) Refusal) (f : Refusal) → r ≡ answer_of (if t then (if b then Some Full else None) else Some BadType) → r ≡ Err f → not (is_for_type f) ≡ t
answered-err true true r f e err = let same : f ≡ Full = cc in ap (λ (x : Refusal). not (is_for_type x)) same
answered-err true false r f e err = absurd (let no : ◌≡◌ {A = Result (Unit {0}) Refusal} (Ok tt) (Err f) = sym e ∙ err in cc)
answered-err false b r f e err = let same : f ≡ BadType = cc in ap (λ (x : Refusal). not (is_for_type x)) same

module _ (env : Environment) (room : ℕ) (n v : List ℕ) (named : IsTrue (is_name n)) (valued : IsTrue (is_value v)) (r : Result (Unit {0}) Refusal) (is : r ≡ answer_of (refusal env env room n (Some v) true)) where
  pub typed-ok : r ≡ Ok tt → true ≡ has_type (attributes env n).kind v
  typed-ok ok = answered-ok (has_type (attributes env n).kind v) (nat_lt room (used (after env n (Some v)))) r (is ∙ ap answer_of (typed_refusal env room n v named valued)) ok

  pub typed-err : (f : Refusal) → r ≡ Err f → not (is_for_type f) ≡ has_type (attributes env n).kind v
  typed-err f err = answered-err (has_type (attributes env n).kind v) (nat_lt room (used (after env n (Some v)))) r f (is ∙ ap answer_of (typed_refusal env room n v named valued)) err
