use Rattle.fw_session.proofs.AnswerLemmas.{answers_both, answers_first, slice_rest}
use Rattle.fw_session.proofs.input.answer_dot.Goals as goal

pub returns-then-answer_block-clause-answers : goal.returns-then-answer_block-clause-answers
returns-then-answer_block-clause-answers g c =
    answers_both _ _ _ _ _ c.truncate.new.self.items _ _ _ _ _ _ _ _ _ c.answer.result c.truncate.ensures.items c.asked_by_line-asked.ensures (slice_rest _ _ _ c.deref.ensures.value) c.if-answer_block.ensures.answers c.answer.ensures

pub returns-else-answer_block-clause-answers : goal.returns-else-answer_block-clause-answers
returns-else-answer_block-clause-answers g c = answers_first _ _ _ _ c.truncate.new.self.items _ _ _ _ _ c.answer_block.result c.if-answer_block.false c.truncate.ensures.items c.answer_block.ensures.answers
