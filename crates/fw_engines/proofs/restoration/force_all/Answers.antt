use Rattle.std.proofs.Common.{◌≡◌, ◌+◌, [], map, drop, get_or, sym, ap, subst, ◌∙◌, refl, true, Some, None}
use Rattle.env_session.specs.Requests.{refusal_in}
use Rattle.fw_engines.specs.Changes.{Changes, text_in_line}
use Rattle.fw_engines.specs.Restoration.{LacksMemoryToForce, forced_effect, refused_in_line, write_view}
use Rattle.fw_engines.specs.Tool.{PrintsText}
use Rattle.fw_engines.specs.declared.restoration.ForcedWrite.{ForcedWrite}
use Rattle.fw_engines.proofs.ChangeLemmas.{drop_none, ran_out, text_ends}
use Rattle.fw_engines.proofs.RestorationLemmas.{at_force, cut_forced, drop_cut, force_refused, forced_more, forced_refused, none_forced, one_forced, saved_ends}
use Rattle.fw_engines.proofs.restoration.force_all.Goals as goal

pub loop-write-init : goal.loop-write-init
loop-write-init g c = record { so_far = none_forced c.args.session.now (map write_view c.args.writes.now); rest = refl; same = refl }

pub returns-in-Err : goal.returns-in-Err
returns-in-Err g c =
    let es = map write_view c.args.writes.now in
    let i = c.loop-write.write-index in
    let old = c.args.session.now in
    let now = c.loop-write.session in
    let d : ForcedWrite = record { name = record { ref_ptr = (0, 0); now = [] }; value = None; line = 0 } in
    let e = write_view (get_or c.args.writes.now i d) in
    let cut = drop_cut write_view c.args.writes.now i d c.loop-write-test.true in
    subst (λ x. Changes (record { session = old; errors = g.E.Write.contents c.args.errors.now }) (record { session = c.force.new.session; errors = x }) (forced_effect old es) (LacksMemoryToForce old es) c.stopped.result)
    (sym c.loop-write.invariant.same)
    (ran_out c.stopped.result _ old _ _ (LacksMemoryToForce old es) c.stopped.ensures
    (at_force old now c.force.new.session es (drop (i + 1) es) e (cut_forced old now es _ _ cut c.loop-write.invariant.so_far) c.in-Err.ensures.growing c.in-Err.ensures.unchanged))

pub returns-in-Ok-Some : goal.returns-in-Ok-Some
returns-in-Ok-Some g c =
    let es = map write_view c.args.writes.now in
    let i = c.loop-write.write-index in
    let old = c.args.session.now in
    let now = c.loop-write.session in
    let d : ForcedWrite = record { name = record { ref_ptr = (0, 0); now = [] }; value = None; line = 0 } in
    let e = write_view (get_or c.args.writes.now i d) in
    let r = c.in-Ok-Some.refusal in
    let end = c.print_refusal.result in
    let some : Some r ≡ refusal_in now e.name e.value true = sym c.in-Ok-Some.field-0-is ∙ c.in-Ok-Some.ensures.refusal in
    let cut = drop_cut write_view c.args.writes.now i d c.loop-write-test.true in
    subst (λ d. Changes (record { session = old; errors = g.E.Write.contents c.args.errors.now }) (record { session = c.force.new.session; errors = g.E.Write.contents c.print_refusal.new.errors }) d (LacksMemoryToForce old es) end)
    (sym (forced_refused now e (drop (i + 1) es) r some) ∙ ap (forced_effect now) (sym cut) ∙ c.loop-write.invariant.rest)
    (text_ends end _ _ old _ (refused_in_line r e now) (LacksMemoryToForce old es) (c.in-Ok-Some.ensures.done ∙ force_refused now e r some)
    (subst (λ a. PrintsText a (g.E.Write.contents c.print_refusal.new.errors) (text_in_line r e) 1 end) c.loop-write.invariant.same c.print_refusal.ensures))

pub loop-write-preserved : goal.loop-write-preserved
loop-write-preserved g c =
    let es = map write_view c.args.writes.now in
    let i = c.loop-write.write-index in
    let old = c.args.session.now in
    let now = c.loop-write.session in
    let d : ForcedWrite = record { name = record { ref_ptr = (0, 0); now = [] }; value = None; line = 0 } in
    let e = write_view (get_or c.args.writes.now i d) in
    let none : None ≡ refusal_in now e.name e.value true = sym c.in-Ok-None.field-0-is ∙ c.in-Ok-None.ensures.refusal in
    let cut = drop_cut write_view c.args.writes.now i d c.loop-write-test.true in
    record {
      so_far = one_forced old now c.force.new.session es (drop (i + 1) es) e (cut_forced old now es _ _ cut c.loop-write.invariant.so_far) none c.in-Ok-None.ensures.done;
      rest = sym (forced_more now c.force.new.session e (drop (i + 1) es) none c.in-Ok-None.ensures.done) ∙ ap (forced_effect now) (sym cut) ∙ c.loop-write.invariant.rest;
      same = c.loop-write.invariant.same;
    }

pub returns : goal.returns
returns g c =
    let es = map write_view c.args.writes.now in
    let old = c.args.session.now in
    let now = c.loop-write.session in
    let none = drop_none write_view c.args.writes.now c.loop-write.write-index c.loop-write-test.false in
    subst (λ x. Changes (record { session = old; errors = g.E.Write.contents c.args.errors.now }) (record { session = c.save.new.session; errors = x }) (forced_effect old es) (LacksMemoryToForce old es) c.save.result)
    (sym c.loop-write.invariant.same)
    (saved_ends c.save.result _ old now c.save.new.session _ es (cut_forced old now es _ _ none c.loop-write.invariant.so_far)
    (sym c.loop-write.invariant.rest ∙ ap (forced_effect now) none) c.save.ensures)
