use Rattle.std.proofs.Common.{◌∙◌}
use Rattle.board_file.proofs.PartLemmas.{widths-found, widths-none}
use Rattle.board_file.proofs.patterns.only_widths.Goals as goal

pub returns-in-Some : goal.returns-in-Some
returns-in-Some c = c.names_builtin.ensures ∙ widths-found c.args.text.now c.in-Some.at c.in-Some.ensures

pub returns-in-None : goal.returns-in-None
returns-in-None c = widths-none c.args.text.now c.in-None.ensures
