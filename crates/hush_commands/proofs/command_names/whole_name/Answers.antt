use Rattle.std.proofs.Common.{Some, None, ap, ◌∙◌}
use Rattle.hush_commands.specs.Hardware.{hardware}
use Rattle.hush_commands.specs.CommandNames.{only_name}
use Rattle.hush_commands.proofs.CommandNameLemmas.{named_by}
use Rattle.hush_commands.proofs.command_names.whole_name.Goals as goal

pub returns-in-Some : goal.returns-in-Some
returns-in-Some c =
    named_by (hardware c.args.board.now c.args.stand_ins.now) c.args.word.now c.without_width-front.result.now (Some c.in-Some.name.now) c.if-is_known.ensures c.without_width-front.ensures c.if-is_known-2.ensures (c.in-Some.ensures ∙ ap only_name c.found_in.ensures)

pub returns-in-None : goal.returns-in-None
returns-in-None c =
    named_by (hardware c.args.board.now c.args.stand_ins.now) c.args.word.now c.without_width-front.result.now None c.if-is_known.ensures c.without_width-front.ensures c.if-is_known-2.ensures (c.in-None.ensures ∙ ap only_name c.found_in.ensures)
