use Rattle.board_file.proofs.PartLemmas.{further}
use Rattle.board_file.proofs.line_parts.cut_at_arrow.Goals as goal

pub loop-byte-preserved : goal.loop-byte-preserved
loop-byte-preserved c =
    further c.args.line.now c.loop-byte.rest.now c.loop-byte.at c.loop-byte.begins c.is_blank-begins.result c.in-Some.byte.now c.in-Some.others.now c.arrow_at.result
    c.in-Some.ensures.cases.0 c.loop-byte.invariant c.in-None.is c.arrow_at.ensures c.is_blank-begins.ensures
