use Rattle.fw_session.specs.declared.session_end.SessionEnding.TheVariants.{Done, WriteFault}
use Rattle.fw_session.proofs.EndLemmas.{finishes_as}
use Rattle.fw_session.proofs.AnswerLemmas.{answers_true, answers_false}
use Rattle.fw_session.proofs.talk.finished.Goals as goal

pub returns-then-answer_rest-clause-ends : goal.returns-then-answer_rest-clause-ends
returns-then-answer_rest-clause-ends g c =
    finishes_as Done _ _ _ _ c.answer_rest.new.talk _ _ _ _ _ c.ended.ensures.session c.ended.ensures.ending c.ended.ensures.written
    (answers_true _ _ _ _ _ _ _ _ c.answer_rest.result c.if-answer_rest.true c.answer_rest.ensures.answers)

pub returns-else-answer_rest-clause-ends : goal.returns-else-answer_rest-clause-ends
returns-else-answer_rest-clause-ends g c =
    finishes_as WriteFault _ _ _ _ c.answer_rest.new.talk _ _ _ _ _ c.ended-else-answer_rest.ensures.session c.ended-else-answer_rest.ensures.ending c.ended-else-answer_rest.ensures.written
    (answers_false _ _ _ _ _ _ _ _ c.answer_rest.result c.if-answer_rest.false c.answer_rest.ensures.answers)
