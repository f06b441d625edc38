use Rattle.std.proofs.Common.{arith}
use Rattle.fw_session.proofs.LastUndo.{ends_restored}
use Rattle.fw_session.proofs.talk.session_in.Goals as goal

pub returns-clause-undone : goal.returns-clause-undone
returns-clause-undone g c = ends_restored c.answer_all.result.ending _ _ _ _ _ _ _ _ _ (omega (arith, c.marks-marks.ensures.marks)) c.answer_all.ensures.ends.1
