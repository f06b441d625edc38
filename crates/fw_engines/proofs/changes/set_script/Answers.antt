use Rattle.std.proofs.Common.{◌≡◌, ◌+◌, map, drop, sym, ap, subst, ◌∙◌, refl, Some, None}
use Rattle.std.specs.Prelude.{false}
use Rattle.env_session.specs.Requests.{entry_in, refusal_in}
use Rattle.env_session.proofs.LawLemmas.{imported_none, imported_more}
use Rattle.envvars_core.specs.Refusals.{refusal_text}
use Rattle.fw_engines.specs.Tool.{PrintsText}
use Rattle.fw_engines.specs.Changes.{Changes, LacksMemory, script_effect, refused_by}
use Rattle.fw_engines.proofs.ChangeLemmas.{at_write, ran_out, text_ends, silent_ends, drop_at, drop_none, script_more, script_refused, tally_more, done_refused}
use Rattle.fw_engines.proofs.changes.set_script.Goals as goal

pub loop-entry-init : goal.loop-entry-init
loop-entry-init g c = record { so_far = imported_none c.args.session.now; rest = refl; same = refl }

pub returns-in-Err : goal.returns-in-Err
returns-in-Err g c =
    let es = map entry_in c.args.entries.now in
    let i = c.loop-entry.entry-index in
    let old = c.args.session.now in
    let cut = drop_at entry_in c.args.entries.now i c.entry-item.result c.loop-entry-test.true c.entry-item.is in
    subst (λ e. Changes (record { session = old; errors = g.E.Write.contents c.args.errors.now }) (record { session = c.write_entry.new.session; errors = e }) (script_effect old es) (LacksMemory old es 0) c.stopped.result)
    (sym c.loop-entry.invariant.same)
    (ran_out c.stopped.result _ old _ _ (LacksMemory old es 0) c.stopped.ensures
    (at_write old c.loop-entry.session c.write_entry.new.session 0 es i _ _ c.loop-entry.invariant.so_far cut c.in-Err.ensures.growing c.in-Err.ensures.unchanged))

pub returns-in-Ok-Some : goal.returns-in-Ok-Some
returns-in-Ok-Some g c =
    let es = map entry_in c.args.entries.now in
    let i = c.loop-entry.entry-index in
    let now = c.loop-entry.session in
    let e = entry_in c.entry-item.result in
    let r = c.in-Ok-Some.refusal in
    let end = c.print_refusal.result in
    let some : Some r ≡ refusal_in now e.0 e.1 false = sym c.in-Ok-Some.field-0-is ∙ c.in-Ok-Some.ensures.refusal in
    let cut = drop_at entry_in c.args.entries.now i c.entry-item.result c.loop-entry-test.true c.entry-item.is in
    subst (λ d. Changes (record { session = c.args.session.now; errors = g.E.Write.contents c.args.errors.now }) (record { session = c.write_entry.new.session; errors = g.E.Write.contents c.print_refusal.new.errors }) d (LacksMemory c.args.session.now es 0) end)
    (sym (script_refused now e (drop (i + 1) es) r some) ∙ ap (script_effect now) (sym cut) ∙ c.loop-entry.invariant.rest)
    (text_ends end _ _ c.args.session.now _ (refused_by r e.0 now) (LacksMemory c.args.session.now es 0) (c.in-Ok-Some.ensures.done ∙ done_refused now e.0 e.1 r some)
    (subst (λ a. PrintsText a (g.E.Write.contents c.print_refusal.new.errors) (refusal_text r e.0) 1 end) c.loop-entry.invariant.same
    (subst (λ n. PrintsText (g.E.Write.contents c.loop-entry.errors) (g.E.Write.contents c.print_refusal.new.errors) (refusal_text r n) 1 end) c.deref.ensures.value c.print_refusal.ensures)))

pub loop-entry-preserved : goal.loop-entry-preserved
loop-entry-preserved g c =
    let es = map entry_in c.args.entries.now in
    let i = c.loop-entry.entry-index in
    let now = c.loop-entry.session in
    let e = entry_in c.entry-item.result in
    let none : None ≡ refusal_in now e.0 e.1 false = sym c.in-Ok-None.field-0-is ∙ c.in-Ok-None.ensures.refusal in
    let cut = drop_at entry_in c.args.entries.now i c.entry-item.result c.loop-entry-test.true c.entry-item.is in
    record {
      so_far = tally_more now c.write_entry.new.session e none c.in-Ok-None.ensures.done
          ∙ imported_more (now, 0) c.args.session.now c.args.entries.now i c.entry-item.result c.loop-entry-test.true c.entry-item.is c.loop-entry.invariant.so_far;
      rest = sym (script_more now c.write_entry.new.session e (drop (i + 1) es) none c.in-Ok-None.ensures.done) ∙ ap (script_effect now) (sym cut) ∙ c.loop-entry.invariant.rest;
      same = c.loop-entry.invariant.same;
    }

pub returns : goal.returns
returns g c =
    let es = map entry_in c.args.entries.now in
    let now = c.loop-entry.session in
    let none = drop_none entry_in c.args.entries.now c.loop-entry.entry-index c.loop-entry-test.false in
    subst (λ e. Changes (record { session = c.args.session.now; errors = g.E.Write.contents c.args.errors.now }) (record { session = c.save.new.session; errors = e }) (script_effect c.args.session.now es) (LacksMemory c.args.session.now es 0) c.save.result)
    (sym c.loop-entry.invariant.same)
    (silent_ends c.save.result _ c.args.session.now now c.save.new.session _ es c.loop-entry.entry-index c.loop-entry.invariant.so_far none
    (sym c.loop-entry.invariant.rest ∙ ap (script_effect now) none) c.save.ensures)
