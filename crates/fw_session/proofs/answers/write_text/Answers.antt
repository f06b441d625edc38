use Rattle.fw_session.proofs.StreamLemmas.{front_grows, counts_more}
use Rattle.fw_session.proofs.answers.write_text.Goals as goal

pub loop-rest-preserved : goal.loop-rest-preserved
loop-rest-preserved g c =
    front_grows _ _ _ _ _ _ c.args.text.now c.loop-rest.rest.now c.in-Ok.count c.loop-rest.invariant c.in-Ok.ensures.bytes
    (counts_more _ _ c.in-Ok.count c.loop-rest.rest.now c.in-Ok.ensures.bound c.saturating_add.ensures)
