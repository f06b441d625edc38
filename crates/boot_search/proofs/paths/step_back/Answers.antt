use Rattle.std.proofs.Common.{◌≡◌, ◌<◌, ℕ, length, map, Some, sym, ap, subst, ◌∙◌, arith}
use Rattle.std.specs.Prelude.{slice_get}
use Rattle.std.proofs.lemmas.List.{length-map}
use Rattle.std.proofs.lemmas.Option.{same_Some, none-some, slice_get_within}
use Rattle.boot_search.specs.Reports.{Step, step_of}
use Rattle.boot_search.proofs.PlaceLemmas.{came_by, way_is, ways_long}
use Rattle.boot_search.proofs.paths.step_back.Goals as goal

pub index-requires-in-Some : goal.index-requires-in-Some
index-requires-in-Some c =
    let ways = c.args.report.now.ways in
    let by = came_by c.args.report.now.stored.items (map step_of ways.items) c.args.at c.index.result.now c.requires.within c.index.ensures c.requires.behind c.requires.reached in
    let same : c.in-Some.way ≡ by.0 = same_Some c.in-Some.way by.0 (sym c.in-Some.is ∙ by.2) in
    let inside : by.0 < length (map step_of ways.items) = slice_get_within (map step_of ways.items) by.0 by.1 by.3 in
    omega (arith, same, inside, ways_long ways)

pub unreachable-requires : goal.unreachable-requires
unreachable-requires c =
    let ways = c.args.report.now.ways in
    let by = came_by c.args.report.now.stored.items (map step_of ways.items) c.args.at c.index.result.now c.requires.within c.index.ensures c.requires.behind c.requires.reached in
    none-some by.0 (sym c.in-None.is ∙ by.2)

-- the way, its number and where it leads from
came : (c : goal.After-index-in-Some) → (w : Step) × (slice_get (map step_of c.args.report.now.ways.items) c.in-Some.way ≡ Some w) × (w.from ≡ c.index-in-Some.result.now.from) × (w.to ≡ c.args.at) × (w.from < c.args.at)
came c =
    let ways = c.args.report.now.ways in
    let by = came_by c.args.report.now.stored.items (map step_of ways.items) c.args.at c.index.result.now c.requires.within c.index.ensures c.requires.behind c.requires.reached in
    let same : c.in-Some.way ≡ by.0 = same_Some c.in-Some.way by.0 (sym c.in-Some.is ∙ by.2) in
    let at : slice_get (map step_of ways.items) c.in-Some.way ≡ Some by.1 = ap (λ (k : ℕ). slice_get (map step_of ways.items) k) same ∙ by.3 in
    let inside : c.in-Some.way < length (map step_of ways.items) = slice_get_within (map step_of ways.items) c.in-Some.way by.1 at in
    let long : length (map step_of ways.items) ≡ length ways.items = length-map ways.items step_of in
    let is : step_of c.index-in-Some.result.now ≡ by.1 = way_is ways.items c.in-Some.way c.index-in-Some.result.now by.1 (omega arith) c.index-in-Some.ensures at in
    (by.1, at, ap (λ (w : Step). w.from) (sym is), by.4, by.5)

pub returns-clause-way : goal.returns-clause-way
returns-clause-way c = let w = came c in (w.0, w.1, w.2, w.3)

pub returns-clause-before : goal.returns-clause-before
returns-clause-before c = let w = came c in subst (λ (n : ℕ). n < c.args.at) w.2 w.4
