use Rattle.hush_syntax.proofs.WordLaws.{words-told}
use Rattle.hush_syntax.proofs.laws.words_are_told.Goals as goal

pub returns : goal.returns
returns c =
    words-told record {
      plain = c.plain_is_told.ensures;
      name = c.name_is_told.ensures;
      assignment = c.assignment_is_told.ensures;
    } c.tokens_are_read.ensures
