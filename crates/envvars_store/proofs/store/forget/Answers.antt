use Rattle.std.proofs.Common.{refl}
use Rattle.envvars_store.proofs.PositionLemmas.{found_as, gap_as, forgotten, nothing_there}
use Rattle.envvars_store.proofs.store.forget.Goals as goal

pub returns-in-Ok-clause-in_order : goal.returns-in-Ok-clause-in_order
returns-in-Ok-clause-in_order c =
    (forgotten c.args.area.now c.args.runs.now.items c.remove_at.new.runs.items c.in-Ok.at c.args.name.now c.requires
    (found_as _ _ _ _ _ _ c.in-Ok.at refl refl c.deref.ensures.value c.in-Ok.ensures) c.remove_at.ensures.filled c.remove_at.ensures.variables).in_order

pub returns-in-Ok-clause-gone : goal.returns-in-Ok-clause-gone
returns-in-Ok-clause-gone c =
    (forgotten c.args.area.now c.args.runs.now.items c.remove_at.new.runs.items c.in-Ok.at c.args.name.now c.requires
    (found_as _ _ _ _ _ _ c.in-Ok.at refl refl c.deref.ensures.value c.in-Ok.ensures) c.remove_at.ensures.filled c.remove_at.ensures.variables).gone

pub returns-in-Err-clause-gone : goal.returns-in-Err-clause-gone
returns-in-Err-clause-gone c =
    nothing_there c.args.area.now c.args.runs.now.items c.in-Err.field-0 c.args.name.now c.requires (gap_as _ _ _ _ _ _ c.in-Err.field-0 refl refl c.deref.ensures.value c.in-Err.ensures)
