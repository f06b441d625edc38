use Rattle.std.proofs.Common.{sym, ap, ◌∙◌, option_copied}
use Rattle.fw_engines.proofs.LineLemmas.{absent_written, absent_stopped}
use Rattle.fw_engines.proofs.variable_lines.print_name.Goals as goal

pub returns-then-write_three : goal.returns-then-write_three
returns-then-write_three g c = absent_written _ _ _ c.args.value_only c.args.vars.now.env c.args.name.now (sym (ap option_copied c.in-None.is) ∙ c.get.ensures.value) c.if-write_three.ensures

pub returns-else-write_three : goal.returns-else-write_three
returns-else-write_three g c = absent_stopped _ _ _ c.args.value_only c.args.vars.now.env c.args.name.now (sym (ap option_copied c.in-None.is) ∙ c.get.ensures.value) c.if-write_three.ensures
