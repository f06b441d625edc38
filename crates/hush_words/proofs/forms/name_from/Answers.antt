use Rattle.std.proofs.Common.{arith, refl, ◌∙◌, [], ◌++◌, false}
use Rattle.hush_words.proofs.NameRuns.{none-on, none-range, step-on}
use Rattle.hush_words.proofs.forms.name_from.Goals as goal

pub loop-next-init : goal.loop-next-init
loop-next-init c = (omega arith, refl, [], none-range c.args.source.now c.args.start, none-on false)

pub loop-next-preserved : goal.loop-next-preserved
loop-next-preserved c =
    let i = c.loop-next.invariant in
    let r = c.in-Some.ensures.goes in
    let both = step-on c.args.source.now c.args.start c.loop-next.here.at c.in-Some.next.at c.loop-next.here.begun c.in-Some.next.begun
    i.2 r.2 i.0 (omega (arith, r.0)) i.3 i.4 r.3 r.4 in
    (omega (arith, i.0, r.0), i.1 ∙ c.in-Some.ensures.before, i.2 ++ r.2, both.0, both.1)
