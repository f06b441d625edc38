use Rattle.std.proofs.Common.{◌++◌, ◌∙◌, ap, inl, inr, map, refl, subst}
use Rattle.envcfg_core.specs.Entries.{entry_view}
use Rattle.fw_engines.specs.Changes.{Changes}
use Rattle.fw_engines.specs.Restoration.{LacksMemoryToForce, LacksMemoryToRestore, deletion, flags_last, forced_effect, restoring, write_view}
use Rattle.fw_engines.proofs.ChangeLemmas.{ran_out}
use Rattle.fw_engines.proofs.RestorationLemmas.{wider}
use Rattle.fw_engines.proofs.restoration.restore_over.Goals as goal

pub returns-in-Err : goal.returns-in-Err
returns-in-Err g c =
    let old = c.args.session.now in
    ran_out c.stopped.result _ old _ _ (LacksMemoryToRestore old (map entry_view c.args.entries.now)) c.stopped.ensures (inl refl)

pub returns-in-Ok : goal.returns-in-Ok
returns-in-Ok g c =
    let old = c.args.session.now in
    let es = map entry_view c.args.entries.now in
    let is = ap (map write_view) c.deref.ensures.value ∙ c.in-Ok.ensures ∙ ap (λ ns. map deletion ns ++ flags_last es) c.requires in
    wider c.force_all.result _ _ _ (LacksMemoryToForce old (restoring old.now.env es)) (LacksMemoryToRestore old es) (λ h lacks. inr lacks)
    (subst (λ ws. Changes (record { session = old; errors = g.E.Write.contents c.args.errors.now }) (record { session = c.force_all.new.session; errors = g.E.Write.contents c.force_all.new.errors })
    (forced_effect old ws) (LacksMemoryToForce old ws) c.force_all.result) is c.force_all.ensures)
