use Rattle.hush_syntax.proofs.HaltLaw.{halts-told}
use Rattle.hush_syntax.proofs.laws.halts_are_told.Goals as goal

pub returns : goal.returns
returns c =
    halts-told record {
      plain = c.plain_is_told.ensures;
      name = c.name_is_told.ensures;
      assignment = c.assignment_is_told.ensures;
    }
