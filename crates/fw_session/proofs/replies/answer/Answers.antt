use Rattle.std.proofs.Common.{sym, ap, ◌∙◌}
use Rattle.env_requests.specs.Views.{asked}
use Rattle.fw_session.specs.Asked.{Seeks}
use Rattle.fw_session.specs.NamedSessions.{named_session, names_of}
use Rattle.fw_session.specs.Views.{asked_view}
use Rattle.fw_session.proofs.NameLemmas.{found_within}
use Rattle.fw_session.proofs.ReplyLemmas.{said_answered, asked_as, found_answered, gone_answered}
use Rattle.fw_session.proofs.replies.answer.Goals as goal

pub undo_to-request-requires : goal.undo_to-request-requires
undo_to-request-requires g c =
    found_within (named_session c.args.session.now (names_of c.args.names.now.items)) c.deref.result.now c.in-Some.found (names_of c.standing.result.now) c.standing.ensures (sym c.in-Some.is ∙ c.last_named.ensures)

pub returns-in-Text : goal.returns-in-Text
returns-in-Text g c = said_answered _ _ c.in-Text.text.now _ _ _ _ _ c.write_text.result (ap asked_view c.in-Text.is) c.write_text.ensures

pub returns-in-Request : goal.returns-in-Request
returns-in-Request g c = asked_as _ _ _ _ _ _ _ _ _ c.answer_request.result (ap asked_view c.in-Request.is) c.answer_request.ensures

pub returns-in-Some : goal.returns-in-Some
returns-in-Some g c =
    asked_as _ _ _ _ _ _ _ _ _ c.answer_request-in-Some.result (ap asked_view c.in-UndoTo.is ∙ ap Seeks (sym c.deref.ensures.0))
    (found_answered _ _ _ c.deref.result.now c.in-Some.found (asked c.undo_to-request.result) (names_of c.standing.result.now) _ _ _ _ c.answer_request-in-Some.result c.standing.ensures (sym c.in-Some.is ∙ c.last_named.ensures)
    c.undo_to-request.ensures c.answer_request-in-Some.ensures)

pub returns-in-None : goal.returns-in-None
returns-in-None g c =
    asked_as _ _ _ _ _ _ _ _ _ c.write_text-in-None.result (ap asked_view c.in-UndoTo.is ∙ ap Seeks (sym c.deref.ensures.0))
    (gone_answered _ _ c.deref.result.now (names_of c.standing.result.now) _ _ _ _ c.write_text-in-None.result c.standing.ensures (sym c.in-None.is ∙ c.last_named.ensures) c.write_text-in-None.ensures)
