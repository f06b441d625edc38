use Rattle.std.proofs.Common.{refl}
use Rattle.envvars_store.proofs.RisingLemmas.{next_place_is}
use Rattle.envvars_store.proofs.extents.far_extent.Goals as goal

pub returns : goal.returns
returns c =
    next_place_is c.args.area.now c.args.at c.in_ok-middle.field-0 c.in_ok-end.end c.args.last.now _ refl refl refl c.in_ok-end.ensures c.in_ok-middle.ensures.found c.if-middle-end.false c.in_ok-middle.ensures.rising
