use Rattle.std.proofs.Common.{◌∙◌, Some, ap, sym}
use Rattle.hush_syntax.proofs.PassedWords.{word-there}
use Rattle.hush_syntax.proofs.cursor.Tokens.first_word.Goals as goal

pub returns-in-Some-Word-clause-placed : goal.returns-in-Some-Word-clause-placed
returns-in-Some-Word-clause-placed c = λ text at. word-there text c.args.self.now c.in-Some-Word.word (sym c.peek.ensures ∙ c.in-Some-Word.is ∙ ap (λ k. Some k) c.in-Some-Word.field-0-is) at
