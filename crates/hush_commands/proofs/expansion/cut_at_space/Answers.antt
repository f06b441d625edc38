use Rattle.hush_commands.specs.Shells.{cuts_list}
use Rattle.hush_commands.proofs.ItemLemmas.{cuts-at, cuts-none}
use Rattle.hush_commands.proofs.expansion.cut_at_space.Goals as goal

pub returns-in-Some : goal.returns-in-Some
returns-in-Some c = cuts-at cuts_list c.args.text.now c.in-Some.at c.in-Some.ensures

pub returns-in-None : goal.returns-in-None
returns-in-None c = cuts-none cuts_list c.args.text.now c.in-None.ensures
