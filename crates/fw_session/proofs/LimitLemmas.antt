-- What is printed of a run that a limit stopped.
use Rattle.std.proofs.Common.{◌≡◌, codes, ◌⊎◌, List, ℕ, Option, refl, sym, ap, ◌∙◌, inl, inr}
use Rattle.hush_run.specs.Runs.{ending_name}
use Rattle.hush_run.specs.declared.ending.Ending.{Ending}
use Rattle.hush_run.specs.declared.ending.Ending.TheVariants as ending
use Rattle.fw_session.specs.ScriptRun.{ended_by_itself, ended_by_limit, ended_so}

-- what is printed of a run that this limit stopped
limit_here : (e limit : Ending) (place : Option (List ℕ)) (status steps : ℕ) (name : List ℕ) → e ≡ limit → ended_by_limit (ending_name limit) place steps ≡ ended_so limit place status steps → name ≡ ending_name e →
    ended_by_limit name place steps ≡ ended_so e place status steps
limit_here e limit place status steps name is said named =
    ap (λ n. ended_by_limit n place steps) named ∙ ap (λ x. ended_by_limit (ending_name x) place steps) is ∙ said ∙ sym (ap (λ x. ended_so x place status steps) is)

-- and of one that any limit stopped
pub limit_is : (e : Ending) (place : Option (List ℕ)) (status steps : ℕ) (name : List ℕ) → (e ≡ ending.Steps) ⊎ ((e ≡ ending.Depth) ⊎ ((e ≡ ending.Word) ⊎ (e ≡ ending.Output))) → name ≡ ending_name e →
    ended_by_limit name place steps ≡ ended_so e place status steps
limit_is e place status steps name (inl is) named = limit_here e ending.Steps place status steps name is refl named
limit_is e place status steps name (inr (inl is)) named = limit_here e ending.Depth place status steps name is refl named
limit_is e place status steps name (inr (inr (inl is))) named = limit_here e ending.Word place status steps name is refl named
limit_is e place status steps name (inr (inr (inr is))) named = limit_here e ending.Output place status steps name is refl named

-- what is printed of a run that ended by itself
itself_here : (e own : Ending) (place : Option (List ℕ)) (status steps : ℕ) (name : List ℕ) → e ≡ own → ended_by_itself (codes "fwenv: ") (ending_name own) status steps ≡ ended_so own place status steps → name ≡ ending_name e →
    ended_by_itself (codes "fwenv: ") name status steps ≡ ended_so e place status steps
itself_here e own place status steps name is said named =
    ap (λ n. ended_by_itself (codes "fwenv: ") n status steps) named ∙ ap (λ x. ended_by_itself (codes "fwenv: ") (ending_name x) status steps) is ∙ said ∙ sym (ap (λ x. ended_so x place status steps) is)

pub itself_is : (e : Ending) (place : Option (List ℕ)) (status steps : ℕ) (name : List ℕ) → (e ≡ ending.Finished) ⊎ (e ≡ ending.Exited) → name ≡ ending_name e → ended_by_itself (codes "fwenv: ") name status steps ≡ ended_so e place status steps
itself_is e place status steps name (inl is) named = itself_here e ending.Finished place status steps name is refl named
itself_is e place status steps name (inr is) named = itself_here e ending.Exited place status steps name is refl named
