use Rattle.std.proofs.Common.{arith}
use Rattle.fw_session.proofs.FaultLemmas.{tells_none, tells_more}
use Rattle.fw_session.proofs.HandlingLemmas.{handled_none, handles_more, handles_stopped}
use Rattle.fw_session.proofs.input.handle_piece.Goals as goal

pub loop-byte-init : goal.loop-byte-init
loop-byte-init g c = ((c.requires, handled_none _ _ _ _ _), tells_none _ _)

pub returns-in-Err-clause-handles : goal.returns-in-Err-clause-handles
returns-in-Err-clause-handles g c =
    handles_stopped _ c.args.piece.now c.loop-byte.byte-index c.args.talk.now c.loop-byte.talk c.handle_byte.new.talk _ _ _ c.in-Err.stop (omega arith) c.loop-byte.invariant.0 c.in-Err.ensures.handles

pub loop-byte-preserved : goal.loop-byte-preserved
loop-byte-preserved g c = (
  handles_more _ c.args.piece.now c.loop-byte.byte-index c.args.talk.now c.loop-byte.talk c.handle_byte.new.talk _ _ _ (omega arith) c.loop-byte.invariant.0 c.in-Ok.ensures.handles,
  tells_more _ _ _ _ c.loop-byte.invariant.1 c.handle_byte.ensures.told,
)

pub returns-in-Err-clause-told : goal.returns-in-Err-clause-told
returns-in-Err-clause-told g c = tells_more _ _ _ _ c.loop-byte.invariant.1 c.handle_byte.ensures.told
