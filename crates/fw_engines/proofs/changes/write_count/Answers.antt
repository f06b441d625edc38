use Rattle.std.proofs.Common.{sym, subst, ◌++◌}
use Rattle.std.specs.Prelude.{MatchBool}
use Rattle.std.specs.Fmt.{decimal}
use Rattle.std.specs.Io.KnownBytes.{Appends}
use Rattle.std.proofs.KnownBytes.{Appends-trans}
use Rattle.fw_engines.specs.Streams.{AppendsPart}
use Rattle.fw_engines.specs.declared.tool_texts.TheConstants.{ERROR, ENTRIES_REFUSED}
use Rattle.fw_engines.proofs.WriteLemmas.{part_more, part_after, after}
use Rattle.fw_engines.proofs.CountLemmas.{count_text_is}
use Rattle.fw_engines.proofs.changes.write_count.Goals as goal

pub returns-then-not-write_text : goal.returns-then-not-write_text
returns-then-not-write_text g c =
    let d = decimal c.args.refused in
    subst (AppendsPart (g.E.Write.contents c.args.errors.now) (g.E.Write.contents c.write_text.new.writer)) (sym (count_text_is c.args.refused c.requires))
    (part_more _ _ (ERROR.now ++ d) ENTRIES_REFUSED.now (part_more _ _ ERROR.now d c.if-not-write_text.ensures))

pub returns-then-not-write_decimal : goal.returns-then-not-write_decimal
returns-then-not-write_decimal g c =
    let d = decimal c.args.refused in
    subst (AppendsPart (g.E.Write.contents c.args.errors.now) (g.E.Write.contents c.write_decimal.new.writer)) (sym (count_text_is c.args.refused c.requires))
    (part_more _ _ (ERROR.now ++ d) ENTRIES_REFUSED.now (part_after _ _ _ ERROR.now d c.if-not-write_text.ensures c.if-not-write_decimal.ensures))

pub returns : goal.returns
returns g c =
    let d = decimal c.args.refused in
    let a = g.E.Write.contents c.args.errors.now in
    let z = g.E.Write.contents c.write_text-2.new.writer in
    subst (λ t. MatchBool c.write_text-2.result (Appends a z t) (AppendsPart a z t)) (sym (count_text_is c.args.refused c.requires))
    (after c.write_text-2.result _ _ _ (ERROR.now ++ d) ENTRIES_REFUSED.now (Appends-trans _ _ _ ERROR.now d c.if-not-write_text.ensures c.if-not-write_decimal.ensures) c.write_text-2.ensures)
