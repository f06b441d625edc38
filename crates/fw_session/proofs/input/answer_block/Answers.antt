use Rattle.std.proofs.Common.{sym, ap, ◌∙◌}
use Rattle.fw_session.proofs.AnswerLemmas.{answers_no_block, answers_block, long}
use Rattle.fw_session.proofs.input.answer_block.Goals as goal

pub returns-then-is_empty-clause-answers : goal.returns-then-is_empty-clause-answers
returns-then-is_empty-clause-answers g c = answers_no_block _ _ c.args.talk.now.bytes.items _ _ _ (long c.args.talk.now.bytes) (sym c.is_empty.ensures ∙ c.if-is_empty.true)

pub returns-clause-answers : goal.returns-clause-answers
returns-clause-answers g c =
    answers_block _ c.bodies_of-bodies.result _ _ c.args.talk.now.bytes.items c.replace-block.result.items _ _ _ _ _ _ c.answer.result (long c.args.talk.now.bytes) (sym c.is_empty.ensures ∙ c.if-is_empty.false) (ap (λ v. v.items) c.replace-block.ensures.value) c.bodies_of-bodies.ensures c.asked_by_block.ensures c.answer.ensures
