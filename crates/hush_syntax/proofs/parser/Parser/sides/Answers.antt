use Rattle.hush_syntax.proofs.CommandExits as exit
use Rattle.hush_syntax.proofs.PassedWords.{assignment-placed}
use Rattle.hush_syntax.proofs.parser.Parser.sides.Goals as goal

pub returns-clause-told : goal.returns-clause-told
returns-clause-told c = exit.sides _ _ c.assignment.result c.assignment.ensures.sides

pub returns-clause-placed : goal.returns-clause-placed
returns-clause-placed c = assignment-placed c.args.self.text.now c.args.word c.assignment.result c.assignment.ensures.sides c.assignment.ensures.places
