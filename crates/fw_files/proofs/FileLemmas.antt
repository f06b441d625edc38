-- What is known of the value of a file that can be used.
use Rattle.std.proofs.Common.{◌≡◌, [], Option, Some, None, ap, subst, sym}
use Rattle.std.specs.Prelude.{Result, Ok, Err, IfOk, MatchOption, unwrap_or}
use Rattle.std.specs.FinMap as names
use Rattle.std.specs.Result.{result_ok}
use Rattle.hush_commands.specs.Stubs.{Statuses, stand_ins_of}

pub of_value : {T E : Type 0} (P : T → Type 0) (outcome : Result T E) (value : T) → Some value ≡ result_ok outcome → IfOk outcome P → P value
of_value P (Ok v) value is p = subst P (sym (ap (λ o. unwrap_or o value) is)) p
of_value P (Err e) value is p = absurd (no is)
  where
    no : Some value ≡ None → ⊥
    no e = cc

pub of_outcome : {T E : Type 0} (P : T → Type 0) (outcome : Result T E) (found : Option T) (A B : Type 0) → found ≡ result_ok outcome → IfOk outcome P →
    MatchOption found A (λ _. B) → MatchOption found A (λ v. P v × B)
of_outcome P (Ok v) found A B is p m = subst (λ f. MatchOption f A (λ _. B) → MatchOption f A (λ v. P v × B)) (sym is) (λ b. (p, b)) m
of_outcome P (Err e) found A B is p m = subst (λ f. MatchOption f A (λ _. B) → MatchOption f A (λ v. P v × B)) (sym is) (λ a. a) m

-- without a text there are no stand-ins
pub no_stand_ins : (stand_ins : Statuses) → stand_ins_of [] ≡ Ok stand_ins → stand_ins ≡ names.empty
no_stand_ins stand_ins is = sym (ap (λ r. unwrap_or (result_ok r) names.empty) is)
