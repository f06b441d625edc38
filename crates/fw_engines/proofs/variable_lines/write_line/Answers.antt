use Rattle.std.proofs.Common.{sym, subst}
use Rattle.std.specs.Prelude.{MatchBool}
use Rattle.std.specs.Io.KnownBytes.{Appends}
use Rattle.fw_engines.specs.Streams.{AppendsPart}
use Rattle.fw_engines.specs.VariableLines.{line_or_value}
use Rattle.fw_engines.proofs.LineLemmas.{line_parts, line_part_stopped}
use Rattle.fw_engines.proofs.variable_lines.write_line.Goals as goal

pub returns-then-not-write_three : goal.returns-then-not-write_three
returns-then-not-write_three g c =
    subst (λ b. AppendsPart (g.W.Write.contents c.args.writer.now) (g.W.Write.contents c.write_three.new.writer) (line_or_value b c.args.name.now c.args.value.now)) (sym c.if-value_only.false)
    (line_part_stopped _ _ c.args.name.now c.args.value.now c.if-not-write_three.ensures)

pub returns : goal.returns
returns g c =
    subst (λ b. MatchBool c.write_text.result (Appends (g.W.Write.contents c.args.writer.now) (g.W.Write.contents c.write_text.new.writer) (line_or_value b c.args.name.now c.args.value.now))
    (AppendsPart (g.W.Write.contents c.args.writer.now) (g.W.Write.contents c.write_text.new.writer) (line_or_value b c.args.name.now c.args.value.now))) (sym c.if-value_only.false)
    (line_parts c.write_text.result _ _ _ c.args.name.now c.args.value.now c.if-not-write_three.ensures c.write_text.ensures)
