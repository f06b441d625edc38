use Rattle.std.proofs.Common.{arith, ◌∙◌, ap, ◌++◌}
use Rattle.dump_search.specs.Search.{environment_at, found_at}
use Rattle.dump_search.proofs.PlaceLemmas.{place_passed, places_over}
use Rattle.dump_search.proofs.dump.environments_in.Goals as goal

pub loop-start-preserved : goal.loop-start-preserved
loop-start-preserved c =
    place_passed c.loop-start.found.items _ c.loop-start.start c.args.dump.now _ (omega arith)
    (c.in_ok-push_at.ensures ∙ ap (λ bytes. c.loop-start.found.items ++ found_at c.loop-start.start bytes (environment_at bytes)) c.behind.ensures) c.loop-start.invariant

pub returns : goal.returns
returns c = places_over c.loop-start.found.items c.loop-start.start c.args.dump.now _ (omega arith) c.loop-start.invariant
