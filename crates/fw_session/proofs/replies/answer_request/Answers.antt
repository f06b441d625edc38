use Rattle.fw_session.proofs.MarkLemmas.{is_low}
use Rattle.fw_session.proofs.ReplyLemmas.{obeyed_answered}
use Rattle.fw_session.proofs.replies.answer_request.Goals as goal

pub name_mark-requires : goal.name_mark-requires
name_mark-requires g c = is_low _ _ _ _ _ c.obey_in-reply.ensures

pub returns : goal.returns
returns g c = obeyed_answered _ _ _ _ _ _ _ _ _ _ _ _ c.write_reply.result c.obey_in-reply.ensures c.name_mark.ensures c.write_reply.ensures
