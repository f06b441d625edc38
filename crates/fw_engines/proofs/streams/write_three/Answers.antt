use Rattle.std.proofs.Common.{◌++◌}
use Rattle.fw_engines.proofs.WriteLemmas.{part_more, after}
use Rattle.fw_engines.proofs.streams.write_three.Goals as goal

pub returns-then-not-write_two : goal.returns-then-not-write_two
returns-then-not-write_two g c = part_more _ _ (c.args.first.now ++ c.args.second.now) c.args.third.now c.if-not-write_two.ensures

pub returns : goal.returns
returns g c = after c.write_text.result _ _ _ (c.args.first.now ++ c.args.second.now) c.args.third.now c.if-not-write_two.ensures c.write_text.ensures
