use Rattle.std.proofs.Common.{◌++◌, length, refl, sym, ap, ◌∙◌, arith}
use Rattle.envcfg_core.specs.Export.{escaped}
use Rattle.envcfg_core.proofs.EscapeLemmas.{escaped_at_mark, length-escaped_at_mark, appended_at_mark, escaped_without_marks}
use Rattle.envcfg_core.proofs.export.append_escaped.Goals as goal

pub append-requires : goal.append-requires
append-requires c =
    let e = length-escaped_at_mark c.loop-at.rest.now c.split_at.result.0.now c.split_at.result.1.now _ _ c.in-Some.at c.in-Some.ensures c.split_at.ensures.front c.split_at.ensures.back refl refl in
    omega arith

pub append-requires-in-Some : goal.append-requires-in-Some
append-requires-in-Some c =
    let cut = c.split_at-in-Some in
    let e = length-escaped_at_mark c.loop-at.rest.now c.split_at.result.0.now c.split_at.result.1.now cut.result.0.now cut.result.1.now c.in-Some.at c.in-Some.ensures c.split_at.ensures.front c.split_at.ensures.back cut.ensures.front cut.ensures.back in
    omega arith

pub append-requires-in-Some-2 : goal.append-requires-in-Some-2
append-requires-in-Some-2 c =
    let cut = c.split_at-in-Some in
    let e = length-escaped_at_mark c.loop-at.rest.now c.split_at.result.0.now c.split_at.result.1.now cut.result.0.now cut.result.1.now c.in-Some.at c.in-Some.ensures c.split_at.ensures.front c.split_at.ensures.back cut.ensures.front cut.ensures.back in
    omega arith

pub loop-at-preserved : goal.loop-at-preserved
loop-at-preserved c =
    let cut = c.split_at-in-Some in
    let e = length-escaped_at_mark c.loop-at.rest.now c.split_at.result.0.now c.split_at.result.1.now cut.result.0.now cut.result.1.now c.in-Some.at c.in-Some.ensures c.split_at.ensures.front c.split_at.ensures.back cut.ensures.front cut.ensures.back in
    record {
      items = appended_at_mark c.loop-at.output.items c.append.new.output.items c.append-in-Some.new.output.items c.append-in-Some-2.new.output.items
          c.split_at.result.0.now cut.result.0.now (escaped c.loop-at.rest.now) (escaped cut.result.1.now) _
          c.append.ensures.items c.append-in-Some.ensures.items c.append-in-Some-2.ensures.items
          (escaped_at_mark c.loop-at.rest.now c.split_at.result.0.now c.split_at.result.1.now cut.result.0.now cut.result.1.now c.in-Some.at c.in-Some.ensures c.split_at.ensures.front c.split_at.ensures.back cut.ensures.front cut.ensures.back)
          c.loop-at.invariant.items;
      len = omega arith;
      room = omega arith;
    }

pub append-requires-2 : goal.append-requires-2
append-requires-2 c =
    let e = ap length (escaped_without_marks c.loop-at.rest.now c.memchr2.result c.memchr2.ensures c.in_default.not-Some) in
    omega arith

pub returns-clause-items : goal.returns-clause-items
returns-clause-items c =
    let e = escaped_without_marks c.loop-at.rest.now c.memchr2.result c.memchr2.ensures c.in_default.not-Some in
    c.append-2.ensures.items ∙ ap (λ xs. c.loop-at.output.items ++ xs) (sym e) ∙ c.loop-at.invariant.items

pub returns-clause-len : goal.returns-clause-len
returns-clause-len c =
    let e = ap length (escaped_without_marks c.loop-at.rest.now c.memchr2.result c.memchr2.ensures c.in_default.not-Some) in
    omega arith
