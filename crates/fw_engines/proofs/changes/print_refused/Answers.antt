use Rattle.fw_engines.specs.Changes.{count_text}
use Rattle.fw_engines.proofs.WriteLemmas.{part_after, part_more, stopped_text}
use Rattle.fw_engines.proofs.changes.print_refused.Goals as goal

pub returns-then-not-write_text : goal.returns-then-not-write_text
returns-then-not-write_text g c =
    stopped_text c.stopped.result _ _ _ _ c.stopped.ensures (part_more _ _ c.args.lines.now (count_text c.args.refused) c.if-not-write_text.ensures)

pub returns-else-write_count : goal.returns-else-write_count
returns-else-write_count g c =
    stopped_text c.stopped-else-write_count.result _ _ _ _ c.stopped-else-write_count.ensures
    (part_after _ _ _ c.args.lines.now (count_text c.args.refused) c.if-not-write_text.ensures c.if-write_count.ensures)
