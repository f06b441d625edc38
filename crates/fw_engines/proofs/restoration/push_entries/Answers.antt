use Rattle.std.proofs.Common.{map}
use Rattle.envcfg_core.specs.Entries.{entry_view}
use Rattle.fw_engines.specs.Restoration.{kept, write_view}
use Rattle.fw_engines.proofs.PartLemmas.{item_cut, some_more}
use Rattle.fw_engines.proofs.restoration.push_entries.Goals as goal

pub loop-entry-preserved : goal.loop-entry-preserved
loop-entry-preserved c =
    some_more entry_view (kept c.args.flags) c.args.entries.now c.loop-entry.entry-index c.entry-item.result (map write_view c.loop-entry.writes.items) _ _
    (item_cut c.args.entries.now c.loop-entry.entry-index c.entry-item.result c.loop-entry-test.true c.entry-item.is) c.in_ok-push_entry.ensures c.loop-entry.invariant
