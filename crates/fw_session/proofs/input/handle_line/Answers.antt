use Rattle.std.proofs.Common.{subst, sym, ◌∙◌}
use Rattle.fw_session.specs.Handling.{IsPending}
use Rattle.fw_session.proofs.CutLemmas.{is_dot, is_plain, line_joins}
use Rattle.fw_session.proofs.HandlingLemmas.{dot_handled, handled_none}
use Rattle.fw_session.proofs.AnswerLemmas.{long}
use Rattle.fw_session.proofs.input.handle_line.Goals as goal

pub returns-then-index-eq46-clause-handles : goal.returns-then-index-eq46-clause-handles
returns-then-index-eq46-clause-handles g c =
    dot_handled _ c.args.talk.now c.answer_dot.new.talk _ _ c.answer_dot.result c.requires (is_dot _ _ c.index.result.now c.requires.within c.index.ensures c.if-index-eq46.true) c.answer_dot.ensures.empty c.answer_dot.ensures.start
    c.answer_dot.ensures.answers

pub returns-else-index-eq46-clause-handles : goal.returns-else-index-eq46-clause-handles
returns-else-index-eq46-clause-handles g c = (
  subst (λ k. IsPending c.args.talk.now.bytes.items k) (long c.args.talk.now.bytes ∙ sym c.len-talk.ensures) (line_joins _ _ c.requires (is_plain _ _ c.index.result.now c.requires.within c.index.ensures c.if-index-eq46.false)),
  handled_none _ _ _ _ _,
)
