use Rattle.std.proofs.Common.{arith, sym, ◌∙◌}
use Rattle.hush_words.specs.Steps.{passes}
use Rattle.hush_words.proofs.Runs.{run-step}
use Rattle.hush_words.proofs.classes.run_end.Goals as goal

pub loop-end-preserved : goal.loop-end-preserved
loop-end-preserved c =
    let step = run-step (passes c.args.class) c.args.source.now c.args.start c.loop-end.end c.loop-end.invariant.0 c.loop-end-test.true
    (sym c.has.ensures ∙ c.if-has.true) c.loop-end.invariant.2 c.loop-end.invariant.3 in
    (omega arith, omega arith, step.0, step.1)
