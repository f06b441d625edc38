use Rattle.std.proofs.Common.{ap, sym, ◌∙◌, map, option_copied}
use Rattle.std.proofs.lemmas.List.{length-map}
use Rattle.env_session.specs.Requests.{entry_in}
use Rattle.env_requests.specs.Requests.{Write, Import}
use Rattle.env_requests.specs.Views.{asked}
use Rattle.env_requests.proofs.ObeyLemmas.{run_obeys, write_obeys, import_obeys, save_obeys, print_obeys, mark_obeys, undo_obeys, undo_to_obeys}
use Rattle.env_requests.proofs.obedience.obey_in.Goals as goal

pub returns-in-Run : goal.returns-in-Run
returns-in-Run c = run_obeys _ _ _ _ _ c.ran.result (ap asked c.in-Run.is) c.ran.ensures

pub returns-in-Write : goal.returns-in-Write
returns-in-Write c =
    write_obeys _ _ _ _ _ _ _ c.write.result (ap asked c.in-Write.is ∙ (λ i. Write (sym c.deref.ensures.value i) (sym c.as_deref.ensures.value i) c.in-Write.force)) c.write.ensures.refused c.write.ensures.accepted c.write.ensures.idle c.write.ensures.written c.write.ensures.unchanged

pub returns-in-Import : goal.returns-in-Import
returns-in-Import c =
    import_obeys _ _ _ _ _ c.import.result.done c.import.result.refused c.import.result.ending (ap asked c.in-Import.is ∙ ap (λ v. Import (map entry_in v)) (sym c.deref-in-Import.ensures.value)) c.import.ensures.session c.import.ensures.growing
    (λ e. c.import.ensures.all e ∙ sym (length-map _ entry_in))

pub returns-in-Save : goal.returns-in-Save
returns-in-Save c = save_obeys _ _ _ _ c.save.result (ap asked c.in-Save.is) c.save.ensures.side c.save.ensures.saved c.save.ensures.unchanged c.save.ensures.refused_only

pub returns-in-Print : goal.returns-in-Print
returns-in-Print c = print_obeys _ _ _ c.listing.result c.vars.result.now.env (ap asked c.in-Print.is) (ap (λ v. v.env) c.vars.ensures) c.listing.ensures

pub returns-in-Mark : goal.returns-in-Mark
returns-in-Mark c = mark_obeys _ _ _ _ c.mark.result (ap asked c.in-Mark.is) c.mark.ensures.full c.mark.ensures.number c.mark.ensures.marked c.mark.ensures.unchanged

pub returns-in-Undo : goal.returns-in-Undo
returns-in-Undo c = undo_obeys _ _ _ _ c.undo_to.result (ap asked c.in-Undo.is) c.undo_to.ensures.undone

pub returns-in-UndoTo : goal.returns-in-UndoTo
returns-in-UndoTo c = undo_to_obeys _ _ _ _ _ c.undo_to-in-UndoTo.result (ap asked c.in-UndoTo.is) c.undo_to-in-UndoTo.ensures.undone
