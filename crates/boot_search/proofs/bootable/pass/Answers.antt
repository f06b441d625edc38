use Rattle.std.proofs.Common.{ℕ, List, length, map, take, sym, subst}
use Rattle.std.specs.Prelude.{◌||◌}
use Rattle.std.proofs.lemmas.List.Elements.{All-contains}
use Rattle.boot_search.specs.Reports.{Step, step_of}
use Rattle.boot_search.specs.Bootable.{IsWithin}
use Rattle.boot_search.proofs.Lists.{Contains_from_get}
use Rattle.boot_search.proofs.PlaceLemmas.{viewed, viewed_more}
use Rattle.boot_search.proofs.BootableLemmas.{Passing, pass_goes_on}
use Rattle.boot_search.proofs.bootable.pass.Goals as goal

pub mark-changed-requires : goal.mark-changed-requires
mark-changed-requires c =
    let ways = c.args.ways.now in
    let w = step_of c.way-item.result in
    let has = Contains_from_get (map step_of ways) c.loop-way.way-index w (viewed step_of ways c.loop-way.way-index c.way-item.result c.loop-way-test.true c.way-item.is) in
    subst (λ (n : ℕ). IsWithin n w) (sym c.loop-way.invariant.long) (All-contains (IsWithin (length c.args.marks.now)) (map step_of ways) w c.requires has)

pub loop-way-preserved : goal.loop-way-preserved
loop-way-preserved c =
    let ways = c.args.ways.now in
    let i = c.loop-way.way-index in
    let x = c.way-item.result in
    let w = step_of x in
    let has = Contains_from_get (map step_of ways) i w (viewed step_of ways i x c.loop-way-test.true c.way-item.is) in
    let within = subst (λ (n : ℕ). IsWithin n w) (sym c.loop-way.invariant.long) (All-contains (IsWithin (length c.args.marks.now)) (map step_of ways) w c.requires has) in
    subst (λ (gone : List Step). Passing c.args.unknown (map step_of ways) c.args.marks.now gone c.mark-changed.new.marks (c.loop-way.changed || c.mark-changed.result))
    (sym (viewed_more step_of ways i x c.loop-way-test.true c.way-item.is))
    (pass_goes_on c.args.unknown (map step_of ways) c.args.marks.now (map step_of (take i ways)) c.loop-way.marks c.loop-way.changed w c.mark-changed.result c.mark-changed.new.marks
    has within.0 c.mark-changed.ensures c.loop-way.invariant)
