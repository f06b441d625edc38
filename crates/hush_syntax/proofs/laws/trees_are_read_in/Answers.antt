use Rattle.hush_syntax.proofs.Told.{trees-told}
use Rattle.hush_syntax.proofs.laws.trees_are_read_in.Goals as goal

pub returns : goal.returns
returns c =
    trees-told c.args.bodies record {
      plain = c.plain_is_told.ensures;
      name = c.name_is_told.ensures;
      assignment = c.assignment_is_told.ensures;
    }
