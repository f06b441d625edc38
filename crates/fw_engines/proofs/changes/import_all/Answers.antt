use Rattle.std.proofs.Common.{◌+◌, ◌≤◌, ℕ, map, cond, sym, ap, subst, ◌∙◌, refl, arith}
use Rattle.env_session.specs.Session.{Held}
use Rattle.env_session.specs.Requests.{entry_in}
use Rattle.env_session.proofs.LawLemmas.{at_most_one, imported_none, imported_more, one_or_none}
use Rattle.envcfg_core.specs.Entries.{entry_view}
use Rattle.fw_engines.proofs.ChangeLemmas.{all_imported, drop_at, in_entry, lines_end, lines_more}
use Rattle.fw_engines.proofs.PartLemmas.{item_cut}
use Rattle.fw_engines.proofs.changes.import_all.Goals as goal

pub loop-entry-init : goal.loop-entry-init
loop-entry-init c = record { so_far = imported_none c.args.session.now; few = omega arith; text = refl }

pub loop-entry-preserved : goal.loop-entry-preserved
loop-entry-preserved c =
    let now : Held × ℕ = (c.loop-entry.session, c.loop-entry.refused) in
    let counted = c.from-refused.ensures ∙ one_or_none c.in-Ok.no ∙ ap (λ b. cond b 1 0) c.in-Ok.ensures.refused in
    let one : c.from-refused.result ≤ 1 = subst (λ n. n ≤ 1) (sym c.from-refused.ensures) (at_most_one c.in-Ok.no) in
    record {
      so_far = (λ i. (c.in-Ok.ensures.done i, c.loop-entry.refused + counted i))
          ∙ imported_more now c.args.session.now c.args.entries.now c.loop-entry.entry-index c.entry-item.result c.loop-entry-test.true c.entry-item.is c.loop-entry.invariant.so_far;
      few = omega (arith, c.loop-entry.invariant.few, one);
      text = lines_more c.args.entries.now c.loop-entry.entry-index c.entry-item.result c.loop-entry.session c.import_entry.new.session c.loop-entry.lines.items _ _
          (item_cut c.args.entries.now c.loop-entry.entry-index c.entry-item.result c.loop-entry-test.true c.entry-item.is) c.in-Ok.ensures.done c.in-Ok.ensures.line c.loop-entry.invariant.text;
    }

pub returns-in-Err-clause-lacking : goal.returns-in-Err-clause-lacking
returns-in-Err-clause-lacking c =
    let es = map entry_in c.args.entries.now in
    let i = c.loop-entry.entry-index in
    let cut = drop_at entry_in c.args.entries.now i c.entry-item.result c.loop-entry-test.true c.entry-item.is in
    in_entry c.args.session.now c.loop-entry.session c.import_entry.new.session c.loop-entry.refused es i (entry_in c.entry-item.result) _ c.loop-entry.invariant.so_far cut c.in-Err.ensures.lacking c.in-Err.ensures.unchanged

pub returns-clause-done : goal.returns-clause-done
returns-clause-done c = all_imported c.args.session.now c.loop-entry.session c.loop-entry.refused c.args.entries.now c.loop-entry.entry-index c.loop-entry-test.false c.loop-entry.invariant.so_far

pub returns-clause-lines : goal.returns-clause-lines
returns-clause-lines c = lines_end c.args.entries.now c.loop-entry.entry-index c.loop-entry.session c.loop-entry.lines.items _ c.loop-entry-test.false c.loop-entry.invariant.text
