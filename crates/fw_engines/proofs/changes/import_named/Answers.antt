use Rattle.std.proofs.Common.{◌++◌, ap, map, subst, ◌∙◌}
use Rattle.envcfg_core.specs.Entries.{entry_view}
use Rattle.fw_engines.specs.Changes.{LacksMemoryToName, pair_of, refused_lines}
use Rattle.fw_engines.proofs.ChangeLemmas.{at_import_save, import_ends, pairs_are, ran_out}
use Rattle.fw_engines.proofs.changes.import_named.Goals as goal

pub returns-in-Err : goal.returns-in-Err
returns-in-Err g c =
    let old = c.args.session.now in
    ran_out c.stopped.result _ old _ _ (LacksMemoryToName old (map pair_of (map entry_view c.args.entries.now))) c.stopped.ensures
    (subst (λ es. LacksMemoryToName old es c.import_all.new.session) (pairs_are c.args.entries.now) c.in-Err.ensures.lacking)

pub returns-in-Err-save : goal.returns-in-Err-save
returns-in-Err-save g c =
    let old = c.args.session.now in
    ran_out c.stopped-in-Err-save.result _ old _ _ (LacksMemoryToName old (map pair_of (map entry_view c.args.entries.now))) c.stopped-in-Err-save.ensures
    (subst (λ es. LacksMemoryToName old es c.save.new.self) (pairs_are c.args.entries.now)
    (at_import_save old _ _ c.in-Ok.refused _ c.in-Ok.ensures.done c.in-Err-save.ensures.refused_only c.in-Err-save.ensures.unchanged))

pub returns : goal.returns
returns g c =
    import_ends c.print_refused.result _ _ c.args.session.now _ _ c.in-Ok.refused c.args.entries.now c.deref.result.now c.in-Ok.ensures.done
    (c.deref.ensures.value ∙ c.in-Ok.ensures.lines ∙ ap (λ t. t ++ refused_lines c.args.session.now (map entry_view c.args.entries.now)) c.new-lines.ensures.items) c.in-Ok-save.ensures.saved c.print_refused.ensures
