use Rattle.std.proofs.Common.{inl, map, refl, eqb-true, subst, sym, length, ◌∙◌}
use Rattle.std.proofs.lemmas.Bool.{eqb-false}
use Rattle.fw_engines.specs.Changes.{Changes}
use Rattle.envcfg_core.specs.Entries.{entry_view}
use Rattle.fw_engines.specs.Restoration.{LacksMemoryToRestore}
use Rattle.fw_engines.proofs.ChangeLemmas.{ran_out}
use Rattle.fw_engines.proofs.RestorationLemmas.{none_restored, some_restored}
use Rattle.fw_engines.proofs.restoration.restore.Goals as goal

pub returns-in-Err : goal.returns-in-Err
returns-in-Err g c =
    let old = c.args.session.now in
    ran_out c.stopped.result _ old _ _ (LacksMemoryToRestore old (map entry_view c.args.entries.now)) c.stopped.ensures (inl refl)

pub returns-then-is_empty : goal.returns-then-is_empty
returns-then-is_empty g c =
    none_restored c.print_text.result _ _ c.args.session.now c.args.entries.now (eqb-true _ _ (sym c.is_empty.ensures ∙ c.if-is_empty.true)) c.print_text.ensures

pub returns-in-Ok : goal.returns-in-Ok
returns-in-Ok g c =
    subst (λ d. Changes (record { session = c.args.session.now; errors = g.E.Write.contents c.args.errors.now })
    (record { session = c.restore_over.new.session; errors = g.E.Write.contents c.restore_over.new.errors }) d (LacksMemoryToRestore c.args.session.now (map entry_view c.args.entries.now)) c.restore_over.result)
    (sym (some_restored c.args.session.now c.args.entries.now (eqb-false (length c.args.entries.now) 0 (sym c.is_empty.ensures ∙ c.if-is_empty.false)))) c.restore_over.ensures
