use Rattle.std.proofs.Common.{refl}
use Rattle.hush_syntax.proofs.Places.{at-first}
use Rattle.hush_syntax.proofs.cursor.Tokens.of.Goals as goal

pub returns-clause-at : goal.returns-clause-at
returns-clause-at c = at-first c.args.text.now c.read_next.new.self c.read_next.ensures.placed (c.read_next.ensures.ends refl)
