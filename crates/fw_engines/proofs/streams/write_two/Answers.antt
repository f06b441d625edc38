use Rattle.fw_engines.proofs.WriteLemmas.{part_more, after}
use Rattle.fw_engines.proofs.streams.write_two.Goals as goal

pub returns-then-not-write_text : goal.returns-then-not-write_text
returns-then-not-write_text g c = part_more _ _ c.args.first.now c.args.second.now c.if-not-write_text.ensures

pub returns : goal.returns
returns g c = after c.write_text-2.result _ _ _ c.args.first.now c.args.second.now c.if-not-write_text.ensures c.write_text-2.ensures
