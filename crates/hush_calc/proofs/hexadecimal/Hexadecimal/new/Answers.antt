use Rattle.std.proofs.Common.{◌-◌, arith, ◌∙◌}
use Rattle.std.proofs.Math.ListN.{length-set}
use Rattle.hush_calc.proofs.HexLemmas.{buffer-step, text-whole, none-from-rest, none-from-place}
use Rattle.hush_calc.proofs.hexadecimal.Hexadecimal.new.Goals as goal
use Rattle.hush_calc.proofs.hexadecimal.Hexadecimal.new.Goals.{then-loop-rest-test+else-start-gt0, else-loop-rest-test}

pub loop-rest-preserved : goal.loop-rest-preserved
loop-rest-preserved c =
    let xs = c.loop-rest.digits in
    let k = c.loop-rest.start in
    record {
      within = omega arith;
      whole = length-set xs (k - 1) c.digit_of.result ∙ c.loop-rest.invariant.whole;
      text = buffer-step c.args.value k c.loop-rest.rest c.digit_of.result xs (omega arith) (omega arith) c.loop-rest-test.true c.digit_of.ensures c.loop-rest.invariant.text;
    }

pub returns : goal.returns
returns c =
    let whole = text-whole c.args.value c.loop-rest.start c.loop-rest.rest c.loop-rest.digits c.if-value-eq0.false c.loop-rest.invariant.text in
    elim c.loop-rest-test.branch [ then-loop-rest-test+else-start-gt0 w ↦ whole (none-from-place c.loop-rest.start c.loop-rest.rest (omega (arith, w.if-start-gt0.false))) | else-loop-rest-test w ↦ whole (none-from-rest c.loop-rest.start c.loop-rest.rest w.loop-rest-test.false) ]
