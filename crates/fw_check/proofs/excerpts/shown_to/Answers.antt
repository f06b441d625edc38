use Rattle.std.proofs.Common.{sym, ◌∙◌, arith}
use Rattle.fw_check.proofs.ExcerptLemmas.{inside-line, to-end, to-on}
use Rattle.fw_check.proofs.excerpts.shown_to.Goals as goal

pub loop-left-preserved : goal.loop-left-preserved
loop-left-preserved c =
    let l = c.loop-left in
    let goes = sym c.ends_line.ensures ∙ c.if-not-ends_line.true in
    record {
      same = to-on c.args.source.now l.left l.to c.loop-left-test.true goes ∙ l.invariant.same;
      behind = omega (arith, l.invariant.behind);
      inside = inside-line c.args.source.now l.to goes;
    }

pub returns-else-not-ends_line-clause-to : goal.returns-else-not-ends_line-clause-to
returns-else-not-ends_line-clause-to c =
    to-end c.args.source.now c.loop-left.left c.loop-left.to (sym c.ends_line.ensures ∙ c.if-not-ends_line.false) ∙ c.loop-left.invariant.same
