use Rattle.std.proofs.Common.{sym, ap, ◌∙◌}
use Rattle.envimg_core.specs.Environment.{used}
use Rattle.envvars_core.specs.Attributes.{attr_among, attributes}
use Rattle.envvars_core.proofs.KeptLemmas.{attributes-empty}
use Rattle.envvars_core.proofs.SizeLemmas.{used-empty}
use Rattle.envvars_core.proofs.variables.Vars.empty.Goals as goal

pub invariant_of-result : goal.invariant_of-result
invariant_of-result c = record {
  sized = sym (ap used c.new.ensures ∙ used-empty);
  fits = c.requires;
  parsed = λ n. ap (λ flags. attr_among flags n) c.new-2.ensures ∙ attributes-empty n ∙ ap (λ m. attributes m n) (sym c.new.ensures);
}
