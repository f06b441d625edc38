use Rattle.std.proofs.Common.{arith, refl}
use Rattle.hush_run.proofs.Descends.{leads_here, leads_on}
use Rattle.hush_run.proofs.descent.descend.Goals as goal

pub loop-frame-init : goal.loop-frame-init
loop-frame-init c = record { leads = leads_here _ _ _ c.requires.known; height = omega arith; room = c.requires.room; capacity = refl }

pub first_part-requires : goal.first_part-requires
first_part-requires c = c.loop-frame.invariant.leads.0

pub push-requires : goal.push-requires
push-requires c = let h = rw c.in-Some.is at c.first_part.ensures in omega (arith, h.3, c.loop-frame.invariant.room)

pub loop-frame-preserved : goal.loop-frame-preserved
loop-frame-preserved c =
    let h = rw c.in-Some.is at c.first_part.ensures in
    let i = c.loop-frame.invariant in
    rw c.push.ensures (record {
      leads = leads_on c.args.script.now c.args.frames.now.frames c.loop-frame.frames.frames c.args.id c.loop-frame.node c.in-Some.part c.in-Some.frame i.leads h;
      height = omega (arith, h.3, i.height);
      room = omega (arith, h.3, i.room);
      capacity = i.capacity;
    })

pub returns-clause-descends : goal.returns-clause-descends
returns-clause-descends c = (c.in_default.ensures, c.loop-frame.invariant.leads)

pub returns-clause-capacity : goal.returns-clause-capacity
returns-clause-capacity c = c.loop-frame.invariant.capacity

pub returns-clause-height : goal.returns-clause-height
returns-clause-height c = c.loop-frame.invariant.height
