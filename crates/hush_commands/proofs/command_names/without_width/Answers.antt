use Rattle.text_parts.proofs.CutLemmas.{before_first-found, before_first-none}
use Rattle.hush_commands.specs.CommandNames.{is_dot}
use Rattle.hush_commands.proofs.command_names.without_width.Goals as goal

pub returns-in-Some : goal.returns-in-Some
returns-in-Some c = before_first-found is_dot c.args.word.now c.in-Some.at c.in-Some.ensures

pub returns-in-None : goal.returns-in-None
returns-in-None c = before_first-none is_dot c.args.word.now c.in-None.ensures
