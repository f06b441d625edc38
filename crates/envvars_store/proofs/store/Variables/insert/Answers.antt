use Rattle.std.proofs.lemmas.Result.{on_ok_weaker}
use Rattle.envvars_store.proofs.PositionLemmas.{put_env}
use Rattle.envvars_store.proofs.store.Variables.insert.Goals as goal

pub returns-clause-ok : goal.returns-clause-ok
returns-clause-ok c =
    on_ok_weaker c.set.result
    (put_env _ c.self.inside.area.items c.self.inside.runs.items c.set.new.runs.items c.in_ok-new.field-0 c.args.name.now c.args.value.now c.args.self.now c.deref.ensures.value c.self.invariant c.in_ok-new.ensures c.self.view_is)
    c.set.ensures.ok
