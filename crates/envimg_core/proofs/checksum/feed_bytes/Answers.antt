use Rattle.std.proofs.Common.{arith, sym, ◌∙◌, ap, drop, ◌+◌}
use Rattle.envimg_core.specs.Register.{feed}
use Rattle.envimg_core.proofs.TableLemmas.{feed_next, feed_done}
use Rattle.envimg_core.proofs.checksum.feed_bytes.Goals as goal

pub loop-byte-preserved : goal.loop-byte-preserved
loop-byte-preserved c =
    ap (λ r. feed r (drop (c.loop-byte.byte-index + 1) c.args.bytes.now)) c.feed_byte-turned.ensures
    ∙ sym (feed_next c.loop-byte.turned c.args.bytes.now c.loop-byte.byte-index (omega arith))
    ∙ c.loop-byte.invariant

pub returns : goal.returns
returns c = sym (feed_done c.loop-byte.turned c.args.bytes.now c.loop-byte.byte-index (omega arith)) ∙ c.loop-byte.invariant
