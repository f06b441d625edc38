use Rattle.hush_syntax.proofs.Told.{one_script}
use Rattle.hush_syntax.proofs.laws.one_tree_in.Goals as goal

pub returns : goal.returns
returns c = one_script c.args.bodies c.scripts_are_read_in.ensures
