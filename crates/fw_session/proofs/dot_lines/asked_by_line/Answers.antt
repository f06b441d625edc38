use Rattle.std.proofs.Common.{◌≡◌, take}
use Rattle.fw_session.specs.Asked.{trimmed}
use Rattle.fw_session.proofs.LineLemmas.{trim_more, trim_end, trim_none, line_known}
use Rattle.fw_session.proofs.dot_lines.asked_by_line.Goals as goal
use Rattle.fw_session.proofs.dot_lines.asked_by_line.Goals.{then-loop-length-test+else-is_end_blank, else-loop-length-test}

pub loop-length-preserved : goal.loop-length-preserved
loop-length-preserved c = trim_more c.args.line.now c.loop-length.length c.is_end_blank.result c.loop-length-test.true c.loop-length.invariant c.is_end_blank.ensures c.if-is_end_blank.true

pub returns : goal.returns
returns c =
    let t : trimmed c.args.line.now ≡ take c.loop-length.length c.args.line.now =
    elim c.loop-length-test.branch [
      | then-loop-length-test+else-is_end_blank w ↦ trim_end c.args.line.now c.loop-length.length w.is_end_blank.result w.loop-length-test.true c.loop-length.invariant w.is_end_blank.ensures w.if-is_end_blank.false
      | else-loop-length-test w ↦ trim_none c.args.line.now c.loop-length.length w.loop-length-test.false c.loop-length.invariant
    ] in
    line_known c.args.line.now (take c.loop-length.length c.args.line.now) c.asked_by_word.result c.asked_by_word.ensures t
