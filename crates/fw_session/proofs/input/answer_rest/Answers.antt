use Rattle.std.proofs.Common.{◌≡◌, ◌<◌, length, arith, false, drop}
use Rattle.fw_session.specs.Input.{is_dot_line}
use Rattle.fw_session.proofs.CutLemmas.{is_dot, is_plain, is_empty_line, rest_is_dot, rest_is_block}
use Rattle.fw_session.proofs.AnswerLemmas.{answers_items, long}
use Rattle.fw_session.proofs.input.answer_rest.Goals as goal
use Rattle.fw_session.proofs.input.answer_rest.Goals.{else-talk-len-via-then-talk-len+else-index-eq46, else-talk-len-via-else-talk-len}

pub returns-then-index-eq46-clause-answers : goal.returns-then-index-eq46-clause-answers
returns-then-index-eq46-clause-answers g c =
    let k = long c.args.talk.now.bytes in
    let lt : c.args.talk.now.start < length c.args.talk.now.bytes.items = omega arith in
    answers_items _ _ _ _ _ _ _ _ _ c.answer_dot.result (rest_is_dot _ _ c.requires (is_dot _ _ c.index.result.now lt c.index.ensures c.if-index-eq46.true)) c.answer_dot.ensures.answers

pub returns-else-talk-len-clause-answers : goal.returns-else-talk-len-clause-answers
returns-else-talk-len-clause-answers g c =
    let k = long c.args.talk.now.bytes in
    let plain : is_dot_line (drop c.args.talk.now.start c.args.talk.now.bytes.items) ≡ false =
    elim c.else-talk-len.branch [
      | else-talk-len-via-then-talk-len+else-index-eq46 w ↦ is_plain c.args.talk.now.bytes.items c.args.talk.now.start w.index.result.now (omega arith) w.index.ensures w.if-index-eq46.false
      | else-talk-len-via-else-talk-len w ↦ is_empty_line c.args.talk.now.bytes.items c.args.talk.now.start (omega arith)
    ] in
    answers_items _ _ _ _ _ _ _ _ _ c.answer_block.result (rest_is_block _ _ c.requires plain) c.answer_block.ensures.answers
