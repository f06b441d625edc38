use Rattle.std.proofs.Common.{◌∙◌, refl, slice_range}
use Rattle.envvars_store.proofs.MapLemmas.{given_put, given_without}
use Rattle.envvars_store.proofs.EntryLemmas.{none_takes, some_takes, place_formed, place_gives, piece_some}
use Rattle.envvars_store.specs.Runs.{listed}
use Rattle.envvars_store.proofs.load.read_entry.Goals as goal

pub set-requires-clause-formed : goal.set-requires-clause-formed
set-requires-clause-formed c =
    place_formed c.args.area.now c.args.start c.args.end c.in-Some.length c.requires.piece c.in-Some.ensures c.in-Some.length-test.1 c.if-length-piece.false

pub returns-in-None-clause-ok : goal.returns-in-None-clause-ok
returns-in-None-clause-ok c =
    given_without (slice_range c.args.area.now c.args.start c.args.end) (listed c.args.area.now c.args.runs.now.items) _ _ c.requires.in_order.sorted refl c.forget.ensures.gone
    ∙ none_takes _ (slice_range c.args.area.now c.args.start c.args.end) (piece_some c.args.area.now c.args.start c.args.end c.requires.piece) c.in-None.ensures

pub returns-in-Some-clause-ok : goal.returns-in-Some-clause-ok
returns-in-Some-clause-ok c =
    given_without _ (listed c.args.area.now c.args.runs.now.items) _ _ c.requires.in_order.sorted refl c.forget-in-Some.ensures.gone
    ∙ some_takes _ (slice_range c.args.area.now c.args.start c.args.end) c.in-Some.length c.in-Some.ensures c.in-Some.length-test.1 c.if-length-piece.true

pub returns-in_ok-set-in-Some-2-clause-ok : goal.returns-in_ok-set-in-Some-2-clause-ok
returns-in_ok-set-in-Some-2-clause-ok c =
    given_put _ _ _ (listed c.args.area.now c.args.runs.now.items) _ _ c.requires.in_order.sorted refl refl c.in_ok-set-in-Some-2.ensures.ok
    ∙ place_gives _ c.args.area.now c.args.start c.args.end c.in-Some.length c.requires.piece c.in-Some.ensures c.in-Some.length-test.1 c.if-length-piece.false
