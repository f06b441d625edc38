use Rattle.std.proofs.Common.{arith, sym, ◌∙◌, ap, ◌-◌, ◌+◌}
use Rattle.envimg_core.specs.Register.{steps}
use Rattle.envimg_core.proofs.TableLemmas.{steps_next, steps_done}
use Rattle.envimg_core.proofs.checksum.feed_bits.Goals as goal

pub loop-preserved : goal.loop-preserved
loop-preserved c =
    ap (steps (8 - (c.loop.counter + 1))) c.feed_bit-turned.ensures
    ∙ sym (steps_next c.loop.counter c.loop.turned (omega arith))
    ∙ c.loop.invariant

pub returns : goal.returns
returns c = sym (steps_done c.loop.counter c.loop.turned (omega arith)) ∙ c.loop.invariant
