use Rattle.std.proofs.Common.{◌<◌, length, arith}
use Rattle.envvars_store.proofs.RunLemmas.{variables_long}
use Rattle.envvars_store.proofs.runs.is_full.Goals as goal

pub returns-then-at-length-clause-long : goal.returns-then-at-length-clause-long
returns-then-at-length-clause-long c =
    λ _.
    let within : c.args.at.run < length c.args.runs.now = omega arith in
    omega (arith, variables_long c.args.runs.now c.args.at.run c.index-runs-at.result within c.index-runs-at.is)

pub returns-else-at-length-clause-long : goal.returns-else-at-length-clause-long
returns-else-at-length-clause-long c =
    λ _.
    let within : c.args.at.run < length c.args.runs.now = omega arith in
    omega (arith, variables_long c.args.runs.now c.args.at.run c.index-runs-at.result within c.index-runs-at.is)
