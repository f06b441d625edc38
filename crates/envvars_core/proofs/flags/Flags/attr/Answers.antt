use Rattle.std.proofs.Common.{unwrap_or, ap, ◌∙◌}
use Rattle.envvars_core.specs.Attributes.{plain, attr_among}
use Rattle.envvars_core.proofs.FlagLemmas.{found_by_lookup}
use Rattle.envvars_core.proofs.flags.Flags.attr.Goals as goal

pub returns : goal.returns
returns c =
    c.unwrap_or.ensures ∙ ap (λ o. unwrap_or o plain) (c.copied.ensures ∙ c.get.ensures.value ∙ found_by_lookup (λ k. k.items) c.args.name.now c.self.inside.items.entries) ∙ ap (λ items. attr_among items c.args.name.now) c.self.view_is
