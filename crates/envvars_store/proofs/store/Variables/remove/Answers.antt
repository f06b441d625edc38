use Rattle.envvars_store.proofs.PositionLemmas.{forget_env}
use Rattle.envvars_store.proofs.store.Variables.remove.Goals as goal

pub returns : goal.returns
returns c = forget_env _ c.self.inside.area.items c.self.inside.runs.items c.forget.new.runs.items c.args.name.now c.args.self.now c.deref.ensures.value c.self.invariant c.self.view_is c.forget.ensures.gone
