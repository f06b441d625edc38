use Rattle.std.proofs.Common.{refl, ap, ◌∙◌}
use Rattle.std.specs.FinMap.Entries.{put}
use Rattle.envimg_core.specs.Environment.{bytes_cmp}
use Rattle.envvars_store.specs.Laying.{pair_of}
use Rattle.envvars_store.proofs.PositionLemmas.{found_as, found_of, gap_as, gap_of, written_over, written_into}
use Rattle.envvars_store.proofs.store.set.Goals as goal

pub returns-in-Ok-clause-in_order : goal.returns-in-Ok-clause-in_order
returns-in-Ok-clause-in_order c =
    (written_over c.args.area.now c.locate_with_room.new.runs.items c.replace_at.new.runs.items c.in-Ok.at c.args.variable c.locate_with_room.ensures.in_order c.requires.lies c.requires.formed
    (found_as _ _ _ _ _ _ c.in-Ok.at c.name.ensures refl refl (found_of c.in_ok-found.found c.in-Ok.at _ _ _ c.in_ok-found.ensures.found c.in-Ok.is)) c.replace_at.ensures.filled c.replace_at.ensures.variables).in_order

pub returns-in-Ok-clause-ok : goal.returns-in-Ok-clause-ok
returns-in-Ok-clause-ok c =
    (written_over c.args.area.now c.locate_with_room.new.runs.items c.replace_at.new.runs.items c.in-Ok.at c.args.variable c.locate_with_room.ensures.in_order c.requires.lies c.requires.formed
    (found_as _ _ _ _ _ _ c.in-Ok.at c.name.ensures refl refl (found_of c.in_ok-found.found c.in-Ok.at _ _ _ c.in_ok-found.ensures.found c.in-Ok.is)) c.replace_at.ensures.filled c.replace_at.ensures.variables).is_put
    ∙ ap (put bytes_cmp (pair_of c.args.area.now c.args.variable).0 (pair_of c.args.area.now c.args.variable).1) c.locate_with_room.ensures.same

pub returns-in_ok-insert_at-in-Err-clause-in_order : goal.returns-in_ok-insert_at-in-Err-clause-in_order
returns-in_ok-insert_at-in-Err-clause-in_order c =
    (written_into c.args.area.now c.locate_with_room.new.runs.items c.insert_at.new.runs.items c.in-Err.at c.args.variable c.locate_with_room.ensures.in_order c.requires.lies c.requires.formed
    (gap_as _ _ _ _ _ _ c.in-Err.at c.name.ensures refl refl (gap_of c.in_ok-found.found c.in-Err.at _ _ _ c.in_ok-found.ensures.found c.in-Err.is)) c.in_ok-insert_at-in-Err.ensures.filled c.in_ok-insert_at-in-Err.ensures.ok).in_order

pub returns-in_ok-insert_at-in-Err-clause-ok : goal.returns-in_ok-insert_at-in-Err-clause-ok
returns-in_ok-insert_at-in-Err-clause-ok c =
    (written_into c.args.area.now c.locate_with_room.new.runs.items c.insert_at.new.runs.items c.in-Err.at c.args.variable c.locate_with_room.ensures.in_order c.requires.lies c.requires.formed
    (gap_as _ _ _ _ _ _ c.in-Err.at c.name.ensures refl refl (gap_of c.in_ok-found.found c.in-Err.at _ _ _ c.in_ok-found.ensures.found c.in-Err.is)) c.in_ok-insert_at-in-Err.ensures.filled c.in_ok-insert_at-in-Err.ensures.ok).is_put
    ∙ ap (put bytes_cmp (pair_of c.args.area.now c.args.variable).0 (pair_of c.args.area.now c.args.variable).1) c.locate_with_room.ensures.same
