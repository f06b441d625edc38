use Rattle.std.proofs.Common.{◌++◌, subst}
use Rattle.std.specs.Prelude.{MatchBool}
use Rattle.std.specs.Fmt.{decimal}
use Rattle.std.specs.Io.KnownBytes.{Appends}
use Rattle.std.proofs.KnownBytes.{Appends-trans}
use Rattle.fw_engines.specs.Streams.{AppendsPart}
use Rattle.fw_engines.specs.declared.tool_texts.TheConstants.{QUOTE_IN_LINE, NEWLINE}
use Rattle.fw_engines.proofs.WriteLemmas.{part_more, part_after, after}
use Rattle.fw_engines.proofs.restoration.write_refusal.Goals as goal

pub returns-then-not-write_three : goal.returns-then-not-write_three
returns-then-not-write_three g c =
    let name = c.args.write.now.name.now in
    let d = decimal c.args.write.now.line in
    subst (λ front. AppendsPart (g.E.Write.contents c.args.errors.now) (g.E.Write.contents c.write_three.new.writer) (front ++ name ++ QUOTE_IN_LINE.now ++ d ++ NEWLINE.now)) c.before_name.ensures
    (part_more _ _ (c.before_name.result.now ++ name ++ QUOTE_IN_LINE.now ++ d) NEWLINE.now
    (part_more _ _ (c.before_name.result.now ++ name ++ QUOTE_IN_LINE.now) d c.if-not-write_three.ensures))

pub returns-then-not-write_decimal : goal.returns-then-not-write_decimal
returns-then-not-write_decimal g c =
    let name = c.args.write.now.name.now in
    let d = decimal c.args.write.now.line in
    subst (λ front. AppendsPart (g.E.Write.contents c.args.errors.now) (g.E.Write.contents c.write_decimal.new.writer) (front ++ name ++ QUOTE_IN_LINE.now ++ d ++ NEWLINE.now)) c.before_name.ensures
    (part_more _ _ (c.before_name.result.now ++ name ++ QUOTE_IN_LINE.now ++ d) NEWLINE.now
    (part_after _ _ _ (c.before_name.result.now ++ name ++ QUOTE_IN_LINE.now) d c.if-not-write_three.ensures c.if-not-write_decimal.ensures))

pub returns : goal.returns
returns g c =
    let name = c.args.write.now.name.now in
    let d = decimal c.args.write.now.line in
    let a = g.E.Write.contents c.args.errors.now in
    let z = g.E.Write.contents c.write_text.new.writer in
    subst (λ front. MatchBool c.write_text.result (Appends a z (front ++ name ++ QUOTE_IN_LINE.now ++ d ++ NEWLINE.now)) (AppendsPart a z (front ++ name ++ QUOTE_IN_LINE.now ++ d ++ NEWLINE.now))) c.before_name.ensures
    (after c.write_text.result _ _ _ (c.before_name.result.now ++ name ++ QUOTE_IN_LINE.now ++ d) NEWLINE.now
    (Appends-trans _ _ _ (c.before_name.result.now ++ name ++ QUOTE_IN_LINE.now) d c.if-not-write_three.ensures c.if-not-write_decimal.ensures) c.write_text.ensures)
