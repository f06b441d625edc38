use Rattle.std.proofs.Common.{ℕ, ap, sym, ◌∙◌, subst, arith, Option, Some, ◌<◌, ◌+◌, length, length-drop}
use Rattle.memchr.specs.Find.{IsFirstByte}
use Rattle.std.proofs.lemmas.List.{take_rest}
use Rattle.envimg_core.specs.Environment.{is_zero}
use Rattle.envimg_core.proofs.EntryLemmas.{not_ended, ended_here, ended_further, ended_at_end}
use Rattle.envimg_core.proofs.area.is_ended.Goals as goal

pub returns-then-ends_with : goal.returns-then-ends_with
returns-then-ends_with c = ended_at_end c.args.area.now (sym c.ends_with.ensures.value ∙ c.if-ends_with.true)

pub returns-in-None : goal.returns-in-None
returns-in-None c = not_ended c.pieces.rest.now (subst (IsFirstByte is_zero c.pieces.rest.now) c.in-None.is c.memchr.ensures) ∙ sym c.pieces.invariant.same

pub returns-in-Some-eq0 : goal.returns-in-Some-eq0
returns-in-Some-eq0 c =
    let P : Option ℕ → Type 0 = IsFirstByte is_zero c.pieces.rest.now in
    ended_here c.pieces.rest.now (subst P (c.in-Some-eq0.is ∙ ap Some c.in-Some-eq0.field-0-test) c.memchr.ensures) ∙ sym c.pieces.invariant.same

pub pieces-preserved : goal.pieces-preserved
pieces-preserved c =
    let P : Option ℕ → Type 0 = IsFirstByte is_zero c.pieces.rest.now in
    let xs = c.pieces.rest.now in
    let past : 0 < c.in-Some.end = omega (arith, c.in-Some.end-test.1) in
    record {
      same = c.pieces.invariant.same ∙ ended_further xs c.in-Some.end past (subst P c.in-Some.is c.memchr.ensures);
      short = omega (arith, c.pieces.invariant.short, ap length (take_rest xs (c.in-Some.end + 1)), length-drop (c.in-Some.end + 1) xs);
    }
