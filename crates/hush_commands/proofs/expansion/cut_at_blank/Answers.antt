use Rattle.hush_commands.specs.Expansion.{splits}
use Rattle.hush_commands.proofs.ItemLemmas.{cuts-at, cuts-none}
use Rattle.hush_commands.proofs.expansion.cut_at_blank.Goals as goal

pub returns-in-Some : goal.returns-in-Some
returns-in-Some c = cuts-at splits c.args.text.now c.in-Some.at c.in-Some.ensures

pub returns-in-None : goal.returns-in-None
returns-in-None c = cuts-none splits c.args.text.now c.in-None.ensures
