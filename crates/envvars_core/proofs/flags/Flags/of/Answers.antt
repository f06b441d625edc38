use Rattle.std.proofs.Common.{◌≡◌, ℕ, List, Some, None, ap, ◌∙◌}
use Rattle.std.proofs.lemmas.Result.{IfOk-weaker}
use Rattle.envvars_core.specs.Attributes.{attr_among, attributes_in, attributes}
use Rattle.envvars_core.proofs.KeptLemmas.{attributes_by, no_text}
use Rattle.envvars_core.proofs.flags.Flags.of.Goals as goal

pub returns-in-Some : goal.returns-in-Some
returns-in-Some c =
    IfOk-weaker c.parse.result (λ flags. (n : List ℕ) → attr_among flags n ≡ attributes_in c.in-Some.text.now n) (λ flags. (n : List ℕ) → attr_among flags n ≡ attributes c.args.variables.now n) (λ flags is n. is n ∙ attributes_by c.args.variables.now (Some c.in-Some.text.now) n c.in-Some.ensures.value) c.parse.ensures

pub returns-in-None : goal.returns-in-None
returns-in-None c = λ n. ap (λ flags. attr_among flags n) c.new.ensures ∙ no_text n ∙ attributes_by c.args.variables.now None n c.in-None.ensures.value
