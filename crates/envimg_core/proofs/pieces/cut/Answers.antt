use Rattle.envimg_core.proofs.EntryLemmas.{cut_nowhere, cut_at}
use Rattle.std.specs.Prelude.{option_map}
use Rattle.envimg_core.proofs.pieces.cut.Goals as goal

pub returns-in-None : goal.returns-in-None
returns-in-None c = cut_nowhere c.args.piece.now c.in-None.ensures

pub returns-in-Some : goal.returns-in-Some
returns-in-Some c = cut_at c.args.piece.now c.in-Some.end (option_map (λ v. v.now) c.value.result) c.in-Some.ensures c.value.ensures
