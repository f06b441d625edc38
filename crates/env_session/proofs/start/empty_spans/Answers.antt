use Rattle.std.proofs.Common.{rules}
use Rattle.env_session.proofs.start.empty_spans.Goals as goal

pub returns-clause-empty : goal.returns-clause-empty
returns-clause-empty c = λ i d lt. let h = c.from_fn.ensures.items.at i d lt in let k = h.2 in search rules
