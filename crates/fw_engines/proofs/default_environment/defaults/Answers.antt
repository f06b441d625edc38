use Rattle.std.proofs.Common.{◌+◌, ◌∙◌, ap, drop, map}
use Rattle.envcfg_core.specs.Entries.{entry_view}
use Rattle.fw_engines.proofs.ChangeLemmas.{drop_at, drop_none}
use Rattle.fw_engines.proofs.DefaultsLemmas.{none_written, all_written, cut_written, stopped_at, went_on}
use Rattle.fw_engines.proofs.default_environment.defaults.Goals as goal

pub loop-entry-init : goal.loop-entry-init
loop-entry-init c = record { front = none_written c.args.room (map entry_view c.args.entries.now) _ (ap (λ v. v.env) c.empty-vars.ensures); room = ap (λ v. v.room) c.empty-vars.ensures }

pub returns-in-Err : goal.returns-in-Err
returns-in-Err c =
    let es = map entry_view c.args.entries.now in
    let cut = drop_at entry_view c.args.entries.now c.loop-entry.entry-index c.entry-item.result c.loop-entry-test.true c.entry-item.is in
    stopped_at c.args.room _ es (drop (c.loop-entry.entry-index + 1) es) (entry_view c.entry-item.result) c.loop-entry.vars.env c.in-Err.refusal c.loop-entry.invariant.room
    (cut_written _ _ _ _ _ cut c.loop-entry.invariant.front) c.in-Err.ensures.refused c.in-Err.ensures.accepted

pub loop-entry-preserved : goal.loop-entry-preserved
loop-entry-preserved c =
    let es = map entry_view c.args.entries.now in
    let cut = drop_at entry_view c.args.entries.now c.loop-entry.entry-index c.entry-item.result c.loop-entry-test.true c.entry-item.is in
    record {
      front = went_on c.args.room _ es (drop (c.loop-entry.entry-index + 1) es) (entry_view c.entry-item.result) c.loop-entry.vars.env _ c.loop-entry.invariant.room
          (cut_written _ _ _ _ _ cut c.loop-entry.invariant.front) c.in-Ok.ensures.refused (ap (λ v. v.env) c.in-Ok.ensures.written);
      room = ap (λ v. v.room) c.in-Ok.ensures.written ∙ c.loop-entry.invariant.room;
    }

pub returns : goal.returns
returns c = (all_written _ _ _ (cut_written _ _ _ _ _ (drop_none entry_view c.args.entries.now c.loop-entry.entry-index c.loop-entry-test.false) c.loop-entry.invariant.front), c.loop-entry.invariant.room)
