use Rattle.hush_syntax.proofs.Told.{full-told}
use Rattle.hush_syntax.proofs.laws.scripts_are_read.Goals as goal

pub returns : goal.returns
returns c = full-told c.scripts_are_read_in.ensures
