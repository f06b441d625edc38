use Rattle.std.proofs.Common.{◌==◌, rules}
use Rattle.std.proofs.lemmas.Iterator.Splits.{YieldsList-from_slice_split}
use Rattle.std.proofs.lemmas.Iterator.Search.{all_from_yields_List}
use Rattle.envvars_core.specs.Types.{is_digit, is_group}
use Rattle.envvars_core.proofs.types.are_all_groups.Goals as goal

pub returns : goal.returns
returns c =
    all_from_yields_List (is_group (is_digit c.args.base) c.args.most) _ _ _ c.all.ensures.ran (YieldsList-from_slice_split _ (λ b. b == c.args.separator) c.args.value.now c.split.ensures.rest c.split.ensures.done c.split.ensures.closure (λ x b q k. search rules)) (λ x b q k. search rules)
