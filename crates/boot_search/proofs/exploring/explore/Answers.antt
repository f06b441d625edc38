use Rattle.std.proofs.Common.{rules, ◌≡◌, ◌∙◌, ◌+◌, ◌≤◌, ◌<◌, ◌++◌, ◌∷◌, [], None, ℕ, List, sym, ap, subst, arith, map, length}
use Rattle.boot_search.specs.declared.exploring.Stored.{Stored}
use Rattle.boot_search.specs.declared.exploring.Way.{Way}
use Rattle.boot_search.specs.Reports.{AreSteps, Step, bytes_of, reached_of, step_of, texts_of}
use Rattle.std.specs.Prelude.{IsTrue, slice_get}
use Rattle.std.proofs.Math.Dec.{leb}
use Rattle.std.proofs.lemmas.Bool.{and_parts, leb-true}
use Rattle.boot_search.proofs.Lists.{get_from_Contains}
use Rattle.boot_search.proofs.ReportLemmas.{grows_state, reaches_listed, listed_reaches}
use Rattle.boot_search.proofs.PlaceLemmas.{covers_more, covers_all, stored_long}
use Rattle.boot_search.proofs.PlacesLemmas.{first_steps}
use Rattle.boot_search.proofs.exploring.explore.Goals as goal

pub returns-then-from-len-clause-report : goal.returns-then-from-len-clause-report
returns-then-from-len-clause-report g c =
    let runs = g.B.Board.runs c.args.board.now in
    let long : length (map bytes_of c.loop-from.stored.items) ≤ c.loop-from.from = omega (arith, stored_long c.loop-from.stored, c.len.ensures, c.if-from-len.true) in
    record {
      first = c.loop-from.invariant.first;
      steps = c.loop-from.invariant.steps;
      covers = λ whole. covers_all runs _ _ c.loop-from.from long (c.loop-from.invariant.covers whole);
    }

pub returns-then-from-len-clause-all : goal.returns-then-from-len-clause-all
returns-then-from-len-clause-all g c whole =
    let r = returns-then-from-len-clause-report g c in
    reaches_listed (g.B.Board.runs c.args.board.now) c.args.start.now _ _ r.first (r.covers whole)

pub returns-then-from-len-clause-only : goal.returns-then-from-len-clause-only
returns-then-from-len-clause-only g c state has =
    let r = returns-then-from-len-clause-report g c in
    let k = get_from_Contains (map bytes_of c.loop-from.stored.items) state has in
    listed_reaches (g.B.Board.runs c.args.board.now) c.args.start.now _ _ _ r.first r.steps (k.0 + 1) k.0 state (omega arith) k.1

pub loop-from-init : goal.loop-from-init
loop-from-init g c =
    let e = c.in_ok-add_stored.ensures in
    let runs = g.B.Board.runs c.args.board.now in
    let new = c.add_stored.new.stored.items in
    let none : c.new-stored.result.items ≡ [] = search rules in
    let no_ways : c.new-ways.result.items ≡ [] = search rules in
    let texts : texts_of new ≡ c.args.start.now ∷ [] = e.texts ∙ ap (λ (xs : List Stored). texts_of xs ++ c.args.start.now ∷ []) none in
    let reached : reached_of new ≡ None ∷ [] = e.reached ∙ ap (λ (xs : List Stored). reached_of xs ++ None ∷ []) none in
    let steps : AreSteps runs (texts_of new) (reached_of new) [] = first_steps runs c.args.start.now (texts_of new) (reached_of new) texts reached in
    record {
      places = e.places;
      first = ap (λ (t : List (List ℕ)). slice_get t 0) texts;
      steps = subst (λ (ws : List Step). AreSteps runs (texts_of new) (reached_of new) ws) (sym (ap (map step_of) no_ways)) steps;
      covers = λ whole i l. absurd (omega (arith, l));
      few = omega (arith, ap (λ (ws : List Way). length ws) no_ways);
    }

pub loop-from-preserved : goal.loop-from-preserved
loop-from-preserved g c =
    let runs = g.B.Board.runs c.args.board.now in
    let e = c.in_ok-all.ensures in
    let within : c.loop-from.from < length (map bytes_of c.loop-from.stored.items) = omega (arith, stored_long c.loop-from.stored, c.len.ensures, c.if-from-len.false) in
    record {
      places = e.places;
      first = grows_state e.grows 0 c.args.start.now c.loop-from.invariant.first;
      steps = e.listed;
      covers = λ whole. covers_more runs c.loop-from.from within e.grows (c.loop-from.invariant.covers (and_parts _ _ whole).0) (e.covers (and_parts _ _ whole).1);
      few = omega (arith, e.few, c.saturating_sub-left.ensures, c.loop-from.invariant.few);
    }

pub returns-clause-report : goal.returns-clause-report
returns-clause-report g c =
    let runs = g.B.Board.runs c.args.board.now in
    let texts = map bytes_of c.loop-from.stored.items in
    let long : IsTrue (leb c.len-2.result c.args.limits.stored) → length texts ≤ c.loop-from.from =
    λ few. omega (arith, stored_long c.loop-from.stored, c.len-2.ensures, c.loop-from-test.false, leb-true c.len-2.result c.args.limits.stored few) in
    record {
      first = c.loop-from.invariant.first;
      steps = c.loop-from.invariant.steps;
      covers = λ whole. covers_all runs texts _ c.loop-from.from (long (and_parts _ _ whole).1) (c.loop-from.invariant.covers (and_parts _ _ whole).0);
    }

pub returns-clause-all : goal.returns-clause-all
returns-clause-all g c whole =
    let r = returns-clause-report g c in
    reaches_listed (g.B.Board.runs c.args.board.now) c.args.start.now _ _ r.first (r.covers whole)

pub returns-clause-only : goal.returns-clause-only
returns-clause-only g c state has =
    let r = returns-clause-report g c in
    let k = get_from_Contains (map bytes_of c.loop-from.stored.items) state has in
    listed_reaches (g.B.Board.runs c.args.board.now) c.args.start.now _ _ _ r.first r.steps (k.0 + 1) k.0 state (omega arith) k.1
