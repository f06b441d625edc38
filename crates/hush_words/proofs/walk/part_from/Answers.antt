use Rattle.std.proofs.Common.{arith, refl, sym, ◌∙◌}
use Rattle.hush_words.proofs.WalkLemmas.{some-part, no-part}
use Rattle.hush_words.proofs.walk.part_from.Goals as goal

pub loop-part-init : goal.loop-part-init
loop-part-init c = record { begun = omega arith; closes = c.requires.closes; left = refl }

pub returns-in-Some-part : goal.returns-in-Some-part
returns-in-Some-part c =
    let i = c.loop-part.invariant in
    let r = c.in-Some.ensures in
    let k = some-part c.args.source.now c.in-Some.field-0.part c.in-Some-part.part _ _ _ c.in-Some-part.is r.3 r.4 i.left in
    rw c.found.ensures (omega (arith, i.begun, r.0), r.1, r.2, k.0, k.1)

pub loop-part-preserved : goal.loop-part-preserved
loop-part-preserved c =
    let i = c.loop-part.invariant in
    let r = c.in-Some.ensures in
    record {
      begun = omega (arith, i.begun, r.0);
      closes = r.2;
      left = no-part c.args.source.now c.in-Some.field-0.part _ _ _ c.in-None.is r.4 i.left;
    }

pub returns : goal.returns
returns c = sym c.loop-part.invariant.left ∙ c.in_default.ensures
