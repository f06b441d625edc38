use Rattle.std.proofs.Common.{◌≡◌, IfSome, subst, sym, ap, ◌∙◌}
use Rattle.std.specs.FinMap as env
use Rattle.envvars_core.specs.Kept.{old_value, AreKept}
use Rattle.envvars_core.proofs.OldLemmas.{olds_of, kept_insert, insert-old}
use Rattle.envvars_core.proofs.olds.Olds.add.Goals as goal

pub invariant_of-self-2 : goal.invariant_of-self-2
invariant_of-self-2 c =
    let variable = c.in_ok-variable.variable in
    subst AreKept (sym c.in_ok-_none.ensures.entries)
    (kept_insert c.self.inside.values.entries c.in_ok-key.key variable c.self.invariant
    (subst (λ n. IfSome variable (λ p. p.0 ≡ n)) (sym c.in_ok-key.ensures.items) c.in_ok-variable.ensures.named))

pub returns-clause-ok : goal.returns-clause-ok
returns-clause-ok c =
    ap olds_of c.in_ok-_none.ensures.entries
    ∙ insert-old c.self.inside.values.entries c.args.self.now c.in_ok-key.key c.in_ok-variable.variable c.self.invariant c.self.view_is
    ∙ ap (λ n. env.insert c.args.self.now n (old_value c.in_ok-variable.variable)) c.in_ok-key.ensures.items
    ∙ ap (env.insert c.args.self.now c.args.name.now) c.in_ok-variable.ensures.value
