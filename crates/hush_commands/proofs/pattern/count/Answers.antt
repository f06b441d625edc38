use Rattle.std.proofs.Common.{ap, length, sym, ◌∙◌}
use Rattle.hush_commands.proofs.BufferLemmas.{length-pieces}
use Rattle.hush_commands.proofs.pattern.count.Goals as goal

pub returns-clause-count : goal.returns-clause-count
returns-clause-count c = sym (length-pieces c.parts.result.0.now c.parts.result.1.now) ∙ ap length c.parts.ensures
