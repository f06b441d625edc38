use Rattle.std.proofs.Common.{◌≡◌, ◌+◌, ◌-◌, length, option_copied, ap, sym, ◌∙◌, arith}
use Rattle.std.specs.FinMap as env
use Rattle.envimg_core.specs.Environment.{used}
use Rattle.envvars_core.specs.Variables.{Contents}
use Rattle.envvars_core.proofs.SizeLemmas.{others_of, others_of_absent}
use Rattle.envvars_core.proofs.variables.Vars.used_without.Goals as goal

pub overflow_add-result-in-Some : goal.overflow_add-result-in-Some
overflow_add-result-in-Some c = omega (arith, others_of c.self.inside.variables c.args.name.now c.in-Some.value.now c.self.inside.used c.self.invariant.sized (ap option_copied (sym c.in-Some.is) ∙ c.requires ∙ ap (λ (s : Contents). env.get s.env c.args.name.now) (sym c.self.view_is)))

pub overflow_cast-result : goal.overflow_cast-result
overflow_cast-result c = omega (arith, others_of c.self.inside.variables c.args.name.now c.in-Some.value.now c.self.inside.used c.self.invariant.sized (ap option_copied (sym c.in-Some.is) ∙ c.requires ∙ ap (λ (s : Contents). env.get s.env c.args.name.now) (sym c.self.view_is)))

pub overflow_sub-result : goal.overflow_sub-result
overflow_sub-result c = omega (arith, others_of c.self.inside.variables c.args.name.now c.in-Some.value.now c.self.inside.used c.self.invariant.sized (ap option_copied (sym c.in-Some.is) ∙ c.requires ∙ ap (λ (s : Contents). env.get s.env c.args.name.now) (sym c.self.view_is)))

pub returns-in-Some-clause-without : goal.returns-in-Some-clause-without
returns-in-Some-clause-without c =
    let others = others_of c.self.inside.variables c.args.name.now c.in-Some.value.now c.self.inside.used c.self.invariant.sized (ap option_copied (sym c.in-Some.is) ∙ c.requires ∙ ap (λ (s : Contents). env.get s.env c.args.name.now) (sym c.self.view_is)) in
    let size : c.self.inside.used - (length c.args.name.now + length c.in-Some.value.now + 2) ≡ used (env.remove c.self.inside.variables c.args.name.now) = omega (arith, others) in
    size ∙ ap (λ (s : Contents). used (env.remove s.env c.args.name.now)) c.self.view_is

pub returns-in-None-clause-without : goal.returns-in-None-clause-without
returns-in-None-clause-without c =
    others_of_absent c.self.inside.variables c.args.name.now c.self.inside.used c.self.invariant.sized (ap option_copied (sym c.in-None.is) ∙ c.requires ∙ ap (λ (s : Contents). env.get s.env c.args.name.now) (sym c.self.view_is)) ∙ ap (λ (s : Contents). used (env.remove s.env c.args.name.now)) c.self.view_is
