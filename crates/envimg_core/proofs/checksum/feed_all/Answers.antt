use Rattle.std.proofs.Common.{◌∙◌, ap, take}
use Rattle.envimg_core.specs.Register.{feed}
use Rattle.envimg_core.proofs.TableLemmas.{fed_on}
use Rattle.envimg_core.proofs.checksum.feed_all.Goals as goal

pub loop-rest-preserved : goal.loop-rest-preserved
loop-rest-preserved c =
    let rest = c.loop-rest.rest.now in
    ap (λ r. feed r c.split_at.result.1.now) (c.feed_block-turned.ensures ∙ ap (feed c.loop-rest.turned) c.split_at.ensures.front)
    ∙ ap (feed (feed c.loop-rest.turned (take 8 rest))) c.split_at.ensures.back
    ∙ fed_on 8 c.loop-rest.turned rest
    ∙ c.loop-rest.invariant

pub returns : goal.returns
returns c = c.feed_bytes.ensures ∙ c.loop-rest.invariant
