use Rattle.hush_syntax.proofs.Told.{scripts-told}
use Rattle.hush_syntax.proofs.laws.scripts_are_read_in.Goals as goal

pub returns : goal.returns
returns c = scripts-told c.args.bodies c.tokens_are_read.ensures c.trees_are_read_in.ensures
