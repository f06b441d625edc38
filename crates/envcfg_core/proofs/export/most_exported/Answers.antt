use Rattle.std.proofs.Common.{◌≡◌, ℕ, ◌≤◌, ◌++◌, ◌∷◌, [], Option, None, Some, SomeIff, IfSome, subst, arith}
use Rattle.std.proofs.lemmas.List.{length-append}
use Rattle.envcfg_core.specs.Export.{escaped}
use Rattle.envcfg_core.proofs.EscapeLemmas.{length-escaped-le}
use Rattle.envcfg_core.proofs.export.most_exported.Goals as goal

counted : (r : Option ℕ) (n m : ℕ) (P : Type 0) → SomeIff r P n → r ≡ Some m → m ≡ n
counted r n m P h e = (subst (λ o. SomeIff o P n) e h).1

at_least : (r : Option ℕ) (n m : ℕ) (P : Type 0) → SomeIff r P n → m ≤ n → IfSome r (λ k. m ≤ k)
at_least None n m P h le = _
at_least (Some k) n m P h le = let e = h.1 in omega arith

pub returns : goal.returns
returns c =
    let name = c.args.name.now in
    let value = c.args.value.now in
    let doubled = counted _ _ _ _ c.checked_mul.ensures c.in_ok-escaped.was in
    let named = counted _ _ _ _ c.checked_add.ensures c.in_ok-checked_add.was in
    let most = length-escaped-le value in
    let whole = length-append name (61 ∷ (escaped value ++ 10 ∷ [])) in
    let rest = length-append (escaped value) (10 ∷ []) in
    at_least c.checked_add-2.result _ _ _ c.checked_add-2.ensures (omega arith)
