use Rattle.std.proofs.Common.{Some, None, arith}
use Rattle.envvars_store.proofs.EntryLemmas.{none_at, entries_none, rest_first, ended, piece_found}
use Rattle.envvars_store.proofs.extents.piece_end.Goals as goal

pub returns-in-None : goal.returns-in-None
returns-in-None c = entries_none _ (none_at 0 _ (rest_first 0 c.args.area.now c.args.at None c.in-None.ensures))

pub returns-in-Some-eq0 : goal.returns-in-Some-eq0
returns-in-Some-eq0 c = ended _ c.in-Some-eq0.field-0 c.in-Some-eq0.field-0-test (rest_first 0 c.args.area.now c.args.at (Some c.in-Some-eq0.field-0) c.in-Some-eq0.ensures)

pub returns-in-Some : goal.returns-in-Some
returns-in-Some c =
    piece_found c.args.area.now c.args.at c.in-Some.length c.requires (rest_first 0 c.args.area.now c.args.at (Some c.in-Some.length) c.in-Some.ensures) (omega (arith, c.in-Some.length-test.1))
