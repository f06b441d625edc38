use Rattle.std.proofs.Common.{ap, ◌∙◌}
use Rattle.fw_session.proofs.LineLemmas.{lines_init, lines_cut_short, lines_more}
use Rattle.fw_session.proofs.answers.write_lines.Goals as goal

pub loop-line-init : goal.loop-line-init
loop-line-init g c = lines_init _ c.vars.result.now.env _ _ _ (ap (λ v. v.env) c.vars.ensures) (c.into_iter-line-iterator.ensures.into_iter_gives ∙ c.lines-line-items.ensures.lines)

pub returns-then-not-write_both : goal.returns-then-not-write_both
returns-then-not-write_both g c = lines_cut_short _ c.in-Some.line.now c.loop-line.line-iterator c.next.new.self _ _ _ _ _ _ c.loop-line.invariant c.in-Some.ensures.steps c.if-not-write_both.ensures

pub loop-line-preserved : goal.loop-line-preserved
loop-line-preserved g c = lines_more _ c.in-Some.line.now c.loop-line.line-iterator c.next.new.self _ _ _ _ _ _ c.loop-line.invariant c.in-Some.ensures.steps c.if-not-write_both.ensures
