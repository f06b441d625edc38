use Rattle.std.proofs.Common.{arith, refl}
use Rattle.envvars_store.proofs.RunLemmas.{variables_long, variable_replaced}
use Rattle.envvars_store.proofs.runs.replace_at.Goals as goal

pub index_mut-requires : goal.index_mut-requires
index_mut-requires c = omega (arith, variables_long c.args.runs.now.items c.args.at.run c.index_mut-run.result.now c.requires.run c.index_mut-run.ensures.value)

pub returns-clause-variables : goal.returns-clause-variables
returns-clause-variables c = variable_replaced c.args.runs.now.items c.args.at c.index_mut-run.result.now _ c.args.variable c.requires.run c.index_mut-run.ensures.value c.requires.index refl
