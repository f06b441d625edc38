use Rattle.std.proofs.Common.{ℕ, ◌≡◌, ◌≤◌, true, false, cond, List, Option, IfSome, IsTrue, option_copied, sym, ap, subst, ◌∙◌, arith}
use Rattle.std.specs.FinMap as env
use Rattle.envimg_core.specs.Environment.{used, is_value}
use Rattle.envvars_core.specs.Refusals.{given}
use Rattle.envvars_core.specs.Variables.{Contents}
use Rattle.envvars_core.specs.Olds.{OldValues, restored, kept, same_value}
use Rattle.envvars_core.proofs.CheckLemmas.{accepted}
use Rattle.envvars_core.proofs.RestoreLemmas.{restored-kept, with_same, kept_by-same, kept_by-new, kept_forgotten}
use Rattle.envvars_core.proofs.variables.Vars.write_kept.Goals as goal

pub keep-requires-clause-name_form : goal.keep-requires-clause-name_form
keep-requires-clause-name_form c =
    let within : used c.self.inside.variables ≤ c.self.inside.room = omega (arith, c.self.invariant.sized, c.self.invariant.fits) in
    let a = accepted c.args.self.now.env c.args.defaults.now.env c.args.self.now.room c.args.name.now (option_copied c.args.new) c.args.force (subst (λ (s : Contents). used s.env ≤ s.room) c.self.view_is within) c.in_ok-size.ensures.accepted in
    a.named

pub set-requires-clause-name_form : goal.set-requires-clause-name_form
set-requires-clause-name_form c =
    let within : used c.self.inside.variables ≤ c.self.inside.room = omega (arith, c.self.invariant.sized, c.self.invariant.fits) in
    let a = accepted c.args.self.now.env c.args.defaults.now.env c.args.self.now.room c.args.name.now (option_copied c.args.new) c.args.force (subst (λ (s : Contents). used s.env ≤ s.room) c.self.view_is within) c.in_ok-size.ensures.accepted in
    a.named

pub set-requires-clause-value_form : goal.set-requires-clause-value_form
set-requires-clause-value_form c =
    let within : used c.self.inside.variables ≤ c.self.inside.room = omega (arith, c.self.invariant.sized, c.self.invariant.fits) in
    let a = accepted c.args.self.now.env c.args.defaults.now.env c.args.self.now.room c.args.name.now (option_copied c.args.new) c.args.force (subst (λ (s : Contents). used s.env ≤ s.room) c.self.view_is within) c.in_ok-size.ensures.accepted in
    subst (λ (v : Option (List ℕ)). IfSome v (λ x. IsTrue (is_value x))) (sym c.given-value.ensures) a.valued

pub set-requires-clause-fits : goal.set-requires-clause-fits
set-requires-clause-fits c =
    let within : used c.self.inside.variables ≤ c.self.inside.room = omega (arith, c.self.invariant.sized, c.self.invariant.fits) in
    let a = accepted c.args.self.now.env c.args.defaults.now.env c.args.self.now.room c.args.name.now (option_copied c.args.new) c.args.force (subst (λ (s : Contents). used s.env ≤ s.room) c.self.view_is within) c.in_ok-size.ensures.accepted in
    subst (λ (n : ℕ). n ≤ c.args.self.now.room) (sym c.in_ok-size.ensures.size) a.fits

pub returns-then-same_value-clause-written : goal.returns-then-same_value-clause-written
returns-then-same_value-clause-written c =
    let same : same_value (env.get c.args.self.now.env c.args.name.now) (given (option_copied c.args.new)) ≡ true = (λ i. same_value (sym c.get-old.ensures.value i) (sym c.given-value.ensures i)) ∙ sym c.same_value.ensures ∙ c.if-same_value.true in
    ap (λ m. record { env = m; room = c.args.self.now.room }) (sym (with_same c.args.self.now.env c.args.name.now (given (option_copied c.args.new)) same))

pub returns-then-same_value-clause-kept : goal.returns-then-same_value-clause-kept
returns-then-same_value-clause-kept c =
    let same : same_value (env.get c.args.self.now.env c.args.name.now) (given (option_copied c.args.new)) ≡ true = (λ i. same_value (sym c.get-old.ensures.value i) (sym c.given-value.ensures i)) ∙ sym c.same_value.ensures ∙ c.if-same_value.true in
    kept_by-same c.args.self.now.env c.args.olds.now c.args.name.now (option_copied c.args.new) same

pub returns-in-Ok-clause-kept : goal.returns-in-Ok-clause-kept
returns-in-Ok-clause-kept c =
    let other : same_value (env.get c.args.self.now.env c.args.name.now) (given (option_copied c.args.new)) ≡ false = (λ i. same_value (sym c.get-old.ensures.value i) (sym c.given-value.ensures i)) ∙ sym c.same_value.ensures ∙ c.if-same_value.false in
    c.in_ok-added.ensures.kept ∙ ap (kept c.args.olds.now c.args.name.now) c.get-old.ensures.value ∙ kept_by-new c.args.self.now.env c.args.olds.now c.args.name.now (option_copied c.args.new) other

pub returns-in-Ok-clause-brings_back : goal.returns-in-Ok-clause-brings_back
returns-in-Ok-clause-brings_back c =
    let keeps : c.keep.new.self ≡ kept c.args.olds.now c.args.name.now (env.get c.args.self.now.env c.args.name.now) = c.in_ok-added.ensures.kept ∙ ap (kept c.args.olds.now c.args.name.now) c.get-old.ensures.value in
    (λ i. restored (c.in-Ok.ensures.ok i).env (keeps i)) ∙ restored-kept c.args.self.now.env c.args.olds.now c.args.name.now (option_copied c.given-value.result)

pub returns-in-Err-clause-olds_unchanged : goal.returns-in-Err-clause-olds_unchanged
returns-in-Err-clause-olds_unchanged c =
    c.forget.ensures
    ∙ ap (λ (o : OldValues). cond c.in_ok-added.added (env.remove o c.args.name.now) o) c.in_ok-added.ensures.kept
    ∙ kept_forgotten c.args.olds.now c.args.name.now (option_copied c.get-old.result) c.in_ok-added.added c.in_ok-added.ensures.added

pub returns-in-Err-clause-brings_back : goal.returns-in-Err-clause-brings_back
returns-in-Err-clause-brings_back c = λ i. restored (c.in-Err.ensures.err i).env (returns-in-Err-clause-olds_unchanged c i)
