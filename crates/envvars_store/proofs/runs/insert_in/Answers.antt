use Rattle.std.proofs.Common.{arith}
use Rattle.envvars_store.proofs.RunLemmas.{variables_long, variable_inserted, variable_kept}
use Rattle.envimg_core.proofs.Facts.{on_err_any}
use Rattle.envvars_store.proofs.runs.insert_in.Goals as goal

pub insert-requires : goal.insert-requires
insert-requires c = omega (arith, variables_long c.args.runs.now.items c.args.at.run c.index_mut.result.now c.requires.run c.index_mut.ensures.value)

pub returns-in_err-insert-clause-err : goal.returns-in_err-insert-clause-err
returns-in_err-insert-clause-err c =
    on_err_any _ _ (variable_kept c.args.runs.now.items c.args.at.run c.index_mut.result.now c.insert.new.self c.requires.run c.index_mut.ensures.value c.in_err-insert.ensures.items)

pub returns-clause-ok : goal.returns-clause-ok
returns-clause-ok c =
    variable_inserted c.args.runs.now.items c.args.at c.index_mut.result.now c.insert.new.self c.args.variable c.requires.run c.index_mut.ensures.value c.in_ok-insert.ensures.items
