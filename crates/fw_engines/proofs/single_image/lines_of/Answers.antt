use Rattle.std.proofs.Common.{ap, ◌∙◌, ◌++◌, [], ◌∷◌}
use Rattle.std.specs.List.{flat_map}
use Rattle.std.specs.FinMap as env
use Rattle.fw_engines.specs.Shown.{listing}
use Rattle.fw_engines.proofs.ListingLemmas.{lines_joined}
use Rattle.fw_engines.proofs.single_image.lines_of.Goals as goal

pub loop-line-init : goal.loop-line-init
loop-line-init c =
    ap (λ xs. xs ++ flat_map (λ x. x ++ 10 ∷ []) c.into_iter-line-iterator.result) c.in_ok-text.ensures.items
    ∙ ap (flat_map (λ x. x ++ 10 ∷ [])) (c.into_iter-line-iterator.ensures.into_iter_gives ∙ c.lines-line-items.ensures.lines)
    ∙ lines_joined (env.entries c.in_ok-vars.vars.env)
    ∙ ap (λ v. listing v.env) c.in_ok-vars.ensures
