use Rattle.std.proofs.Common.{◌+◌, ◌/◌, ◌%◌, [], ◌∷◌, subst, arith}
use Rattle.std.specs.Prelude.{MatchBool}
use Rattle.std.specs.Fmt.{decimal}
use Rattle.std.specs.Io.KnownBytes.{Appends}
use Rattle.fw_engines.specs.Streams.{AppendsPart}
use Rattle.fw_engines.proofs.WriteLemmas.{part_more, after}
use Rattle.fw_engines.proofs.CountLemmas.{one_digit, more_digits}
use Rattle.fw_engines.proofs.streams.+write_decimal.Goals as goal

pub returns-then-number-lt10 : goal.returns-then-number-lt10
returns-then-number-lt10 g t c =
    let a = g.W.Write.contents c.args.writer.now in
    let z = g.W.Write.contents c.write_text.new.writer in
    subst (λ d. MatchBool c.write_text.result (Appends a z d) (AppendsPart a z d)) (one_digit c.args.number c.if-number-lt10.true) c.write_text.ensures

pub returns-then-not-write_decimal : goal.returns-then-not-write_decimal
returns-then-not-write_decimal g t c =
    subst (AppendsPart (g.W.Write.contents c.args.writer.now) (g.W.Write.contents c.write_decimal.new.writer)) (more_digits c.args.number c.if-number-lt10.false (omega (arith, c.ranges.number)))
    (part_more _ _ (decimal (c.args.number / 10)) ((48 + c.args.number % 10) ∷ []) c.if-not-write_decimal.ensures)

pub returns : goal.returns
returns g t c =
    let a = g.W.Write.contents c.args.writer.now in
    let z = g.W.Write.contents c.write_text-2.new.writer in
    subst (λ d. MatchBool c.write_text-2.result (Appends a z d) (AppendsPart a z d)) (more_digits c.args.number c.if-number-lt10.false (omega (arith, c.ranges.number)))
    (after c.write_text-2.result _ _ _ (decimal (c.args.number / 10)) ((48 + c.args.number % 10) ∷ []) c.if-not-write_decimal.ensures c.write_text-2.ensures)
