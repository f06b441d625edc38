use Rattle.std.proofs.Common.{Some, None, refl, inr}
use Rattle.fw_session.proofs.BlockLemmas.{is_script}
use Rattle.fw_session.proofs.blocks.asked_by_block.Goals as goal

pub returns-in-Ok : goal.returns-in-Ok
returns-in-Ok c = is_script c.args.bodies c.args.block.items _ (Some _) c.in-Ok.ensures.read c.in-Ok.ensures.kept

pub returns-in-Memory : goal.returns-in-Memory
returns-in-Memory c = inr refl

pub returns-in_default : goal.returns-in_default
returns-in_default c = is_script c.args.bodies c.args.block.items _ None (c.in-Err.ensures.unread c.in_default.not-Memory) refl
