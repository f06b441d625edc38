use Rattle.std.proofs.Common.{arith, sym, ap, ◌∙◌, drop}
use Rattle.hush_words.specs.Steps.{begins, inner_left, inner_end, optional_atoms}
use Rattle.hush_words.proofs.QuoteLemmas.{double-left, double-on}
use Rattle.hush_words.proofs.walk.double_step.Goals as goal

pub returns-in-None : goal.returns-in-None
returns-in-None c =
    let left = double-left c.args.source.now c.args.at c.in-None.ensures.reads c.requires.closes in
    rw c.outside.ensures (omega arith, omega (arith, left.0), tt, tt, left.1)

pub overflow_add-at : goal.overflow_add-at
overflow_add-at c = omega (arith, c.requires.few, (double-left c.args.source.now c.args.at c.in-None.ensures.reads c.requires.closes).0)

pub returns-in-Some : goal.returns-in-Some
returns-in-Some c =
    let source = c.args.source.now in
    let end = c.in-Some.read.end in
    let r = c.in-Some.ensures.reads in (
      r.0,
      r.1,
      ap (begins 34) (sym r.3) ∙ c.requires.closes,
      c.in-Some.ensures.fits,
      double-on (inner_left (drop c.args.at source)) (optional_atoms source c.in-Some.read.part) (inner_left (drop end source))
          (inner_end (drop c.args.at source)) (inner_end (drop end source)) r.2 r.3,
    )
