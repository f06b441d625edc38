use Rattle.std.proofs.Common.{◌%◌, ◌^◌, ap, ◌∙◌, arith}
use Rattle.envvars_core.specs.Kept.{old_value}
use Rattle.envvars_core.specs.Variables.{size_of}
use Rattle.envvars_core.proofs.RestoreLemmas.{size_swapped}
use Rattle.envvars_core.proofs.variables.restore.swap_one.Goals as goal

pub returns-clause-sized : goal.returns-clause-sized
returns-clause-sized c =
    size_swapped c.args.variables.now c.args.name.now (old_value c.args.old) (2 ^ 64) c.args.size c.size_of-present.result c.size_of-kept.result c.requires.sized
    (c.size_of-present.ensures ∙ ap (λ o. size_of c.args.name.now o % 2 ^ 64) c.get.ensures.value)
    (c.size_of-kept.ensures ∙ ap (λ o. size_of c.args.name.now o % 2 ^ 64) c.value_of.ensures)
    (omega arith)
