use Rattle.std.proofs.Common.{sym, ◌∙◌, arith}
use Rattle.fw_check.proofs.ExcerptLemmas.{from-end, from-on}
use Rattle.fw_check.proofs.excerpts.shown_from.Goals as goal

pub loop-left-preserved : goal.loop-left-preserved
loop-left-preserved c =
    let l = c.loop-left in
    record {
      same = from-on c.args.source.now l.left l.from c.loop-left-test.true (sym c.is_cut_before.ensures ∙ c.if-is_cut_before.true) ∙ l.invariant.same;
      before = omega (arith, l.invariant.before);
    }

pub returns-else-is_cut_before-clause-from : goal.returns-else-is_cut_before-clause-from
returns-else-is_cut_before-clause-from c =
    from-end c.args.source.now c.loop-left.left c.loop-left.from (sym c.is_cut_before.ensures ∙ c.if-is_cut_before.false) ∙ c.loop-left.invariant.same
