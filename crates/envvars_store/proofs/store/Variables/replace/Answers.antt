use Rattle.std.proofs.Common.{ap, sym, refl, ◌∙◌, is_some}
use Rattle.std.specs.FinMap as env
use Rattle.std.proofs.lemmas.Bool.{false≢true}
use Rattle.envvars_store.proofs.MapLemmas.{none_is}
use Rattle.envvars_store.proofs.PositionLemmas.{found_as, gap_as, written_over, got_some, got_nothing, put_env}
use Rattle.envvars_store.proofs.store.Variables.replace.Goals as goal

pub invariant_of-self : goal.invariant_of-self
invariant_of-self c =
    let f = found_as _ c.args.variable.0 _ c.self.inside.area.items _ c.self.inside.runs.items c.in-Ok.at c.name.ensures.name c.deref.ensures.value c.deref-2.ensures.value c.in-Ok.ensures in
    (written_over c.self.inside.area.items c.self.inside.runs.items c.replace_at.new.runs.items c.in-Ok.at _ c.self.invariant tt c.name.ensures.form f c.replace_at.ensures.filled c.replace_at.ensures.variables).in_order

pub returns-in-Ok-clause-present : goal.returns-in-Ok-clause-present
returns-in-Ok-clause-present c =
    let f = found_as _ c.args.variable.0 _ c.self.inside.area.items _ c.self.inside.runs.items c.in-Ok.at c.name.ensures.name c.deref.ensures.value c.deref-2.ensures.value c.in-Ok.ensures in
    (λ _. ap (λ m. is_some (env.get m c.args.variable.0)) (sym c.self.view_is) ∙ got_some _ _ c.in-Ok.at c.args.variable.0 c.self.invariant f, λ _. refl)

pub returns-in-Ok-clause-ok : goal.returns-in-Ok-clause-ok
returns-in-Ok-clause-ok c =
    let f = found_as _ c.args.variable.0 _ c.self.inside.area.items _ c.self.inside.runs.items c.in-Ok.at c.name.ensures.name c.deref.ensures.value c.deref-2.ensures.value c.in-Ok.ensures in
    put_env c.self.inside.area.items c.self.inside.area.items c.self.inside.runs.items c.replace_at.new.runs.items c.args.variable c.args.variable.0 c.args.variable.1 c.args.self.now refl c.self.invariant refl c.self.view_is
    (written_over c.self.inside.area.items c.self.inside.runs.items c.replace_at.new.runs.items c.in-Ok.at _ c.self.invariant tt c.name.ensures.form f c.replace_at.ensures.filled c.replace_at.ensures.variables).is_put

pub returns-in-Err-clause-present : goal.returns-in-Err-clause-present
returns-in-Err-clause-present c =
    let g = gap_as _ c.args.variable.0 _ c.self.inside.area.items _ c.self.inside.runs.items c.in-Err.field-0 c.name.ensures.name c.deref.ensures.value c.deref-2.ensures.value c.in-Err.ensures in
    (λ e. absurd (false≢true e), λ s. absurd (none_is _ (ap (λ m. env.get m c.args.variable.0) (sym c.self.view_is) ∙ got_nothing _ _ c.in-Err.field-0 c.args.variable.0 c.self.invariant g) s))
