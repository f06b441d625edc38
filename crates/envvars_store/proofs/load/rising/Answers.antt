use Rattle.std.proofs.Common.{[], ◌∷◌, ◌++◌, ◌+◌, ap, refl, ◌∙◌, fold, slice_range}
use Rattle.envimg_core.specs.Pieces.{entries_of, after_entry}
use Rattle.envvars_store.specs.Runs.{listed}
use Rattle.envvars_store.specs.declared.variable.Variable.TheVariants.{Loaded}
use Rattle.envvars_store.proofs.MapLemmas.{env_of, env_empty}
use Rattle.envvars_store.proofs.PositionLemmas.{laid_none, laid_lent}
use Rattle.envvars_store.proofs.RisingLemmas.{first_run_filled, first_run_flat, rises_none, risen, risen_left}
use Rattle.envvars_store.proofs.load.rising.Goals as goal

pub walk-init : goal.walk-init
walk-init c =
    let area = c.args.area.now in
    let runs = c.args.runs.now.items in
    let run = c.in_ok-run.run' in
    let first = c.in-Some.first in
    let next = c.in-Some.ensures in
    let in_order = laid_lent area area runs [] refl c.requires.empty (laid_none area) in
    let r = risen area runs (runs ++ run ∷ []) 0 [] first in_order (rises_none area runs c.requires.empty) next
    (first_run_filled runs run (Loaded first) c.requires.empty c.in_ok-run.ensures) (first_run_flat runs run (Loaded first) c.requires.empty c.in_ok-run.ensures) in
    record {
      in_order = r.in_order;
      extent = next.extent;
      ends = next.piece.within;
      plain = next.plain;
      rises = r.rises;
      left = risen_left area runs (runs ++ run ∷ []) 0 [] first _ in_order next r
          (ap (λ m. fold after_entry m (entries_of area)) (ap (λ rs. env_of (listed area rs)) c.requires.empty ∙ env_empty));
    }

pub walk-preserved : goal.walk-preserved
walk-preserved c =
    let area = c.args.area.now in
    let was = c.walk.runs.items ++ c.walk.run ∷ [] in
    let is = c.add.new.runs.items ++ c.add.new.run ∷ [] in
    let at = c.walk.last.end + 1 in
    let name = slice_range area c.walk.last.start c.walk.last.middle in
    let extent = c.in-Some-extent_behind.extent in
    let next = c.in-Some-extent_behind.ensures in
    let r = risen area was is at name extent c.walk.invariant.in_order c.walk.invariant.rises next c.in_ok-add-in-Some-extent_behind.ensures.filled c.in_ok-add-in-Some-extent_behind.ensures.ok in
    record {
      in_order = r.in_order;
      extent = next.extent;
      ends = next.piece.within;
      plain = next.plain;
      rises = r.rises;
      left = risen_left area was is at name extent _ c.walk.invariant.in_order next r c.walk.invariant.left;
    }

pub returns-in_default-clause-left : goal.returns-in_default-clause-left
returns-in_default-clause-left c = ap (λ m. fold after_entry m (entries_of c.args.area.now)) (ap (λ rs. env_of (listed c.args.area.now rs)) c.requires.empty ∙ env_empty)
